use Rattle.std.proofs.Common.{◌≡◌, length}
use Rattle.example_csv.specs.Copying.{WritesOn}
use Rattle.example_csv.proofs.program.write_records.Given as goal

-- what was read since the start was written
abbrev pub invariant-loop-row : goal.invariant-loop-row
invariant-loop-row g l = record {
  writes : WritesOn l.fn.reader l.fn.progress (g.W.Write.contents l.fn.output)
      l.reader l.progress (g.W.Write.contents l.output);
  ended : l.reader.ended ≡ l.fn.reader.ended;
}

abbrev pub decreases-loop-row : goal.decreases-loop-row
decreases-loop-row g l = length l.reader.ahead
