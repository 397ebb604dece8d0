use Rattle.std.proofs.lemmas.Result.{IfOk-from_err}
use Rattle.winnow_tree.proofs.joining.join.Goals as goal

-- if memory is refused, nothing is promised
pub returns-in_err-append-in-Alt-second : goal.returns-in_err-append-in-Alt-second
returns-in_err-append-in-Alt-second g c = IfOk-from_err _ _ c.from_residual.ensures.0

pub returns-in_err-push-in_default-second : goal.returns-in_err-push-in_default-second
returns-in_err-push-in_default-second g c = IfOk-from_err _ _ c.from_residual-in_err-push-in_default-second.ensures.0

pub returns-in_err-push-in-Alt-second-2 : goal.returns-in_err-push-in-Alt-second-2
returns-in_err-push-in-Alt-second-2 g c = IfOk-from_err _ _ c.from_residual-in_err-push-in-Alt-second-2.ensures.0

pub returns-in_err-push-in_default-second-2 : goal.returns-in_err-push-in_default-second-2
returns-in_err-push-in_default-second-2 g c = IfOk-from_err _ _ c.from_residual-in_err-push-in_default-second-2.ensures.0

pub returns-in_err-push-in_default-second-2-2 : goal.returns-in_err-push-in_default-second-2-2
returns-in_err-push-in_default-second-2-2 g c = IfOk-from_err _ _ c.from_residual-in_err-push-in_default-second-2-2.ensures.0
