use Rattle.winnow_script_lines.proofs.lemmas.FaultLemmas.{IfErr-handed, IsLineWhere-more}
use Rattle.winnow_script_lines.proofs.execution.execute_whole.Goals as goal

-- the steps that were read are run on the input that was read
pub returns-clause-printed : goal.returns-clause-printed
returns-clause-printed g c = (
  c.in_ok-steps.steps.items,
  c.read_steps.new.lines.rest.now,
  c.in_ok-input.input,
  c.in_ok-steps.ensures.steps,
  c.in_ok-input.ensures.input,
  rw c.deref.ensures.value at c.in_ok-run_whole.ensures,
)

-- what follows the steps is no input
pub returns-in_err-input-clause-fault : goal.returns-in_err-input-clause-fault
returns-in_err-input-clause-fault g c =
    let steps = c.in_ok-steps.ensures in
    IfErr-handed _ c.from_residual-in_err-input.result c.in_err-input.field-0.0 c.from_residual-in_err-input.ensures.1
    (IsLineWhere-more _ _ c.in_err-input.field-0.0 (λ k fault. (c.in_ok-steps.steps.items, c.read_steps.new.lines.rest.now, steps.steps, steps.stops, rw steps.number at fault)) c.in_err-input.ensures.fault)
