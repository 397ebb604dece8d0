use Rattle.std.proofs.lemmas.Result.{IfOk-from_err}
use Rattle.winnow_tree.proofs.pushing.over.Goals as goal

-- if memory is refused, nothing is promised
pub returns-in_err-base : goal.returns-in_err-base
returns-in_err-base g c = IfOk-from_err _ _ c.from_residual.ensures.0

pub returns-in_err-push : goal.returns-in_err-push
returns-in_err-push g c = IfOk-from_err _ _ c.from_residual-in_err-push.ensures.0
