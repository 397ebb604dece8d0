use Rattle.std.proofs.lemmas.Result.{IfOk-from_err}
use Rattle.winnow_tree.proofs.text.write_frame_line.Goals as goal

-- if memory is refused, nothing is promised
pub returns-in_err-write : goal.returns-in_err-write
returns-in_err-write g c = IfOk-from_err _ _ c.from_residual.ensures.0

pub returns-in_err-write_frame : goal.returns-in_err-write_frame
returns-in_err-write_frame g c = IfOk-from_err _ _ c.from_residual-in_err-write_frame.ensures.0

pub returns-in_err-push : goal.returns-in_err-push
returns-in_err-push g c = IfOk-from_err _ _ c.from_residual-in_err-push.ensures.0
