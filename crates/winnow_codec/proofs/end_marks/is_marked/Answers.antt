use Rattle.std.proofs.lemmas.Bool.Decides.{Decides-eqb}
use Rattle.std.proofs.lemmas.Slice.Eq.{ends_is}
use Rattle.winnow_codec.proofs.end_marks.is_marked.Goals as goal

pub returns-clause-ends : goal.returns-clause-ends
returns-clause-ends c = (ends_is Decides-eqb c.args.bytes.now c.args.mark.now c.ends_with.result c.ends_with.ensures.value).0

pub returns-clause-each : goal.returns-clause-each
returns-clause-each c = (ends_is Decides-eqb c.args.bytes.now c.args.mark.now c.ends_with.result c.ends_with.ensures.value).1
