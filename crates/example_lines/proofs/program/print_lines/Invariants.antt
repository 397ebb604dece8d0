use Rattle.std.proofs.Common.{◌≡◌, false, take}
use Rattle.std.specs.Prelude.{None}
use Rattle.winnow_base.specs.Inputs.{joined, pieces_in}
use Rattle.example_lines.specs.Lines.{HasLines, first_end}
use Rattle.example_lines.proofs.program.print_lines.Given as goal

-- of the pieces so far the reader has read the lines so far, and no line end stands in the rest
abbrev pub invariant-loop-i : goal.invariant-loop-i
invariant-loop-i g l = record {
  goes_on : l.reader.ended ≡ false;
  read : HasLines l.reader (joined (pieces_in (take l.i l.pieces))) l.lines.items;
  all : first_end l.reader.ahead ≡ None;
}
