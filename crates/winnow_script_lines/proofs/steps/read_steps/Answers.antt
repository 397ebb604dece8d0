use Rattle.std.proofs.lemmas.Result.{IfOk-from_err}
use Rattle.std.proofs.Common.{[], ◌∷◌, length, length-append, ap, arith, refl}
use Rattle.winnow_script_lines.specs.Steps.{DenotesStep}
use Rattle.winnow_script_lines.proofs.lemmas.LineLemmas.{AreLines-push}
use Rattle.winnow_script_lines.proofs.steps.read_steps.Goals as goal

pub loop-steps-preserved : goal.loop-steps-preserved
loop-steps-preserved g c =
    let line = c.in_ok-step.ensures in
    let same = c.loop-steps.invariant.ahead in
    let told = rw same at (rw c.in-Some.is at line.step) in
    let more = AreLines-push (DenotesStep g.L.Contents.bytes) _ _ _ _ c.loop-steps.invariant.steps told in
    record {
      steps = rw (c.in_ok-push.ensures.items, line.rest, same) more;
      number = omega (arith, c.loop-steps.invariant.number, (rw (c.in-Some.is, same) at line.number) refl, ap length c.in_ok-push.ensures.items, length-append c.loop-steps.steps.items (c.in-Some.step ∷ []));
      reach = omega (arith, c.loop-steps.invariant.reach, rw same at line.reach);
      ahead = refl;
    }

-- the next line means no step
pub returns-clause-stops : goal.returns-clause-stops
returns-clause-stops g c = rw (c.in_default.is, c.loop-steps.invariant.ahead) at c.in_ok-step.ensures.step

-- if memory is refused, there is no value and nothing to promise of it
pub returns-in_err-step-clause-steps : goal.returns-in_err-step-clause-steps
returns-in_err-step-clause-steps g c = IfOk-from_err _ _ c.from_residual.ensures.0

pub returns-in_err-step-clause-stops : goal.returns-in_err-step-clause-stops
returns-in_err-step-clause-stops g c = IfOk-from_err _ _ c.from_residual.ensures.0

pub returns-in_err-step-clause-number : goal.returns-in_err-step-clause-number
returns-in_err-step-clause-number g c = IfOk-from_err _ _ c.from_residual.ensures.0

pub returns-in_err-push-clause-steps : goal.returns-in_err-push-clause-steps
returns-in_err-push-clause-steps g c = IfOk-from_err _ _ c.from_residual-in_err-push.ensures.0

pub returns-in_err-push-clause-stops : goal.returns-in_err-push-clause-stops
returns-in_err-push-clause-stops g c = IfOk-from_err _ _ c.from_residual-in_err-push.ensures.0

pub returns-in_err-push-clause-number : goal.returns-in_err-push-clause-number
returns-in_err-push-clause-number g c = IfOk-from_err _ _ c.from_residual-in_err-push.ensures.0
