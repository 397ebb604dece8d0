use Rattle.std.proofs.Common.{◌≡◌, ◌+◌, ◌≤◌, length}
use Rattle.winnow_script_lines.specs.Inputs.{DenotesFed, BeginsWithPiece}
use Rattle.winnow_script_lines.specs.Lines.{reach, AreLines}
use Rattle.winnow_script_lines.proofs.fed_lines.read_fed_lines.Given as goal

abbrev pub invariant-loop-alloc : goal.invariant-loop-alloc
invariant-loop-alloc g l = record {
  told : AreLines (DenotesFed g.L.Contents.bytes) l.fn.lines.rest.now l.told.items l.lines.rest.now;
  first : BeginsWithPiece l.told.items;
  number : l.lines.number ≡ l.fn.lines.number + length l.told.items;
  reach : reach l.lines ≤ reach l.fn.lines;
}

abbrev pub decreases-loop-alloc : goal.decreases-loop-alloc
decreases-loop-alloc g l = length l.lines.rest.now
