use Rattle.std.proofs.Common.{◌≡◌, ◌+◌, ◌≤◌, length}
use Rattle.winnow_script_lines.specs.Lines.{reach, AreLines}
use Rattle.winnow_script_lines.specs.Steps.{DenotesStep}
use Rattle.winnow_script_lines.proofs.steps.read_steps.Given as goal

abbrev pub invariant-loop-steps : goal.invariant-loop-steps
invariant-loop-steps g l = record {
  steps : AreLines (DenotesStep g.L.Contents.bytes)
      l.fn.lines.rest.now l.steps.items l.lines.rest.now;
  number : l.lines.number ≡ l.fn.lines.number + length l.steps.items;
  reach : reach l.lines ≤ reach l.fn.lines;
  ahead : l.ahead ≡ l.lines;
}

abbrev pub decreases-loop-steps : goal.decreases-loop-steps
decreases-loop-steps g l = length l.ahead.rest.now
