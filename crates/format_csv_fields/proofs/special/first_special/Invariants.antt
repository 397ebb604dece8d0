use Rattle.memchr.specs.Find.{Nowhere, Passes}
use Rattle.format_csv.specs.Fields.{is_special}
use Rattle.format_csv_fields.proofs.special.first_special.Given as goal

-- no byte so far is special
abbrev pub invariant-loop-index : goal.invariant-loop-index
invariant-loop-index l = Nowhere (Passes is_special l.bytes) 0 l.index
