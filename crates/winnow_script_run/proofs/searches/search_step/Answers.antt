use Rattle.std.proofs.lemmas.Result.{IfOk-from_err}
use Rattle.winnow_script_run.proofs.searches.search_step.Goals as goal

-- if memory is refused, there is no value and nothing to promise of it
pub returns-in_err-told-in-Call-clause-step : goal.returns-in_err-told-in-Call-clause-step
returns-in_err-told-in-Call-clause-step g c = IfOk-from_err _ _ c.from_residual.ensures.0
