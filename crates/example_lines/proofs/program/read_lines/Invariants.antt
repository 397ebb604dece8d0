use Rattle.std.proofs.Common.{◌≡◌, ℕ, false, List, length}
use Rattle.example_lines.specs.Lines.{HasLines}
use Rattle.example_lines.proofs.program.read_lines.Given as goal

-- the reader goes on, and has read the lines so far
abbrev pub invariant-loop-reader : goal.invariant-loop-reader
invariant-loop-reader l = record {
  goes_on : l.reader.ended ≡ false;
  read : (input : List ℕ) → HasLines l.initial.reader input l.initial.lines.items
      → HasLines l.reader input l.lines.items;
}

abbrev pub decreases-loop-reader : goal.decreases-loop-reader
decreases-loop-reader l = length l.reader.ahead
