use Rattle.std.proofs.lemmas.Result.{IfOk-from_err}
use Rattle.winnow_error_context.proofs.context.ContextError.clone.Goals as goal

-- if memory is refused, there is no value and nothing to promise of it
pub returns-in_err-context : goal.returns-in_err-context
returns-in_err-context g c = IfOk-from_err _ _ c.from_residual.ensures.0

pub returns-in_err-cause : goal.returns-in_err-cause
returns-in_err-cause g c = IfOk-from_err _ _ c.from_residual-in_err-cause.ensures.0
