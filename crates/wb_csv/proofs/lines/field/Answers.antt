use Rattle.std.proofs.Common.{sym}
use Rattle.csv.specs.Records.{fields_of}
use Rattle.wb_csv.proofs.lemmas.LineLemmas.{pick-some, pick-none}
use Rattle.wb_csv.proofs.lines.field.Goals as goal

pub returns-in-Some : goal.returns-in-Some
returns-in-Some c = pick-some (fields_of c.args.row.now) c.args.place c.in-Some.field.now (sym (rw c.in-Some.is at c.get.ensures.value))

pub returns-in-None : goal.returns-in-None
returns-in-None c = pick-none (fields_of c.args.row.now) c.args.place (sym (rw c.in-None.is at c.get.ensures.value))
