use Rattle.std.proofs.Common.{take}
use Rattle.std.specs.List.{AllZip}
use Rattle.winnow_script_lines.specs.Loans.{IsSameStep}
use Rattle.winnow_script_lines.proofs.loans.lend_steps.Given as goal

abbrev pub invariant-loop-step : goal.invariant-loop-step
invariant-loop-step g l = AllZip (IsSameStep g.L.Contents.bytes g.L.Lend.lent_bytes) (take l.step-index l.steps) l.lent.items
