use Rattle.std.proofs.lemmas.Result.{IfOk-from_err}
use Rattle.winnow_tree.proofs.lemmas.TreeTextLemmas.{frames_more}
use Rattle.winnow_tree.proofs.text.write_frames.Goals as goal

pub loop-level-preserved : goal.loop-level-preserved
loop-level-preserved g c =
    frames_more g.I.Display.output g.C.Display.output c.args.indent.now c.args.frames.now c.loop-level.level c.index-frames-level.result c.loop-level-test.true c.index-frames-level.is _ _ _ c.loop-level.invariant c.in_ok-write_frame_line.ensures

-- if memory is refused, nothing is promised
pub returns-in_err-write_frame_line : goal.returns-in_err-write_frame_line
returns-in_err-write_frame_line g c = IfOk-from_err _ _ c.from_residual.ensures.0
