use Rattle.std.proofs.Common.{arith}
use Rattle.winnow_script_lines.proofs.lemmas.FaultLemmas.{IfErr-handed, IsLineWhere-more}
use Rattle.winnow_script_lines.proofs.execution.execute_pieces.Goals as goal

-- the pieces are no longer than the lines that mean them
pub run_pieces-requires : goal.run_pieces-requires
run_pieces-requires g c =
    rw c.deref-2.ensures.value (omega (arith, c.in_ok-fed.ensures.short, c.read_steps.new.lines.in_range))

-- the steps that were read are run on the pieces that were read
pub returns-clause-printed : goal.returns-clause-printed
returns-clause-printed g c = (
  c.in_ok-steps.steps.items,
  c.read_steps.new.lines.rest.now,
  c.in_ok-fed.fed.items,
  c.in_ok-steps.ensures.steps,
  c.in_ok-fed.ensures.told,
  rw (c.deref.ensures.value, c.deref-2.ensures.value) at c.in_ok-run_pieces.ensures,
)

-- what follows the steps has a line that may not follow those before it
pub returns-in_err-fed-clause-fault : goal.returns-in_err-fed-clause-fault
returns-in_err-fed-clause-fault g c =
    let steps = c.in_ok-steps.ensures in
    IfErr-handed _ c.from_residual-in_err-fed.result c.in_err-fed.field-0.0 c.from_residual-in_err-fed.ensures.1
    (IsLineWhere-more _ _ c.in_err-fed.field-0.0 (λ k fault. (c.in_ok-steps.steps.items, c.read_steps.new.lines.rest.now, steps.steps, steps.stops, rw steps.number at fault)) c.in_err-fed.ensures.fault)
