use Rattle.std.proofs.lemmas.Result.{IfOk-from_err}
use Rattle.winnow_error.proofs.combining.+join_tree.Goals as goal

-- if memory is refused, there is no value and nothing to promise of it
pub returns-in_err-first-in-Both-clause-bracketed : goal.returns-in_err-first-in-Both-clause-bracketed
returns-in_err-first-in-Both-clause-bracketed g t c = IfOk-from_err _ _ c.from_residual.ensures.0

pub returns-in_err-second-in-Both-clause-bracketed : goal.returns-in_err-second-in-Both-clause-bracketed
returns-in_err-second-in-Both-clause-bracketed g t c = IfOk-from_err _ _ c.from_residual-in_err-second-in-Both.ensures.0
