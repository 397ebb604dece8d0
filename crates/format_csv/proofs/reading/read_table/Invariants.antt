use Rattle.std.proofs.Common.{length}
use Rattle.format_csv.specs.Tables.{rows_in, AreRecords}
use Rattle.format_csv.proofs.reading.read_table.Given as goal

-- the rows so far stand before what remains
abbrev pub invariant-loop-row : goal.invariant-loop-row
invariant-loop-row l = AreRecords l.text (rows_in l.table.items) l.input

abbrev pub decreases-loop-row : goal.decreases-loop-row
decreases-loop-row l = length l.input
