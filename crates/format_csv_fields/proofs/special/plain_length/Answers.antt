use Rattle.format_csv.proofs.lemmas.FillByteLemmas.{before-special, at-special, all-plain, none-plain}
use Rattle.format_csv_fields.proofs.special.plain_length.Goals as goal

pub returns-in-Some-clause-plain : goal.returns-in-Some-clause-plain
returns-in-Some-clause-plain c = before-special c.args.bytes.now c.in-Some.length c.in-Some.ensures

pub returns-in-Some-clause-ends : goal.returns-in-Some-clause-ends
returns-in-Some-clause-ends c = at-special c.args.bytes.now c.in-Some.length c.in-Some.ensures

pub returns-in-None-clause-plain : goal.returns-in-None-clause-plain
returns-in-None-clause-plain c = all-plain c.args.bytes.now c.in-None.ensures

pub returns-in-None-clause-ends : goal.returns-in-None-clause-ends
returns-in-None-clause-ends c = none-plain c.args.bytes.now
