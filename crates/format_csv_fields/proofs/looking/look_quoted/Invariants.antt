use Rattle.std.proofs.Common.{◌-◌, length}
use Rattle.format_csv_fields.specs.Looking.{IsLooked}
use Rattle.format_csv_fields.specs.declared.looking.Looked.TheVariants.{Quoted}
use Rattle.format_csv_fields.proofs.looking.look_quoted.Given as goal

-- the bytes before the index are an opening quote and the value so far
abbrev pub invariant-loop-length : goal.invariant-loop-length
invariant-loop-length l = IsLooked l.bytes (Quoted l.at l.doubled)

abbrev pub decreases-loop-length : goal.decreases-loop-length
decreases-loop-length l = length l.bytes - l.at
