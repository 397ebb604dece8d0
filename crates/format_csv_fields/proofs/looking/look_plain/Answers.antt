use Rattle.std.proofs.Common.{arith}
use Rattle.format_csv.proofs.lemmas.FillByteLemmas.{slice-from}
use Rattle.format_csv_fields.proofs.lemmas.LookLemmas.{plain-on}
use Rattle.format_csv_fields.proofs.looking.look_plain.Goals as goal

pub returns : goal.returns
returns c =
    plain-on c.args.bytes.now _ c.args.at c.plain_length.result (slice-from c.args.bytes.now c.args.at) (omega arith) c.requires c.plain_length.ensures.bound c.plain_length.ensures.plain c.plain_length.ensures.ends
