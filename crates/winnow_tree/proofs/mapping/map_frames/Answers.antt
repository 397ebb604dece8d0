use Rattle.std.proofs.lemmas.Result.{IfOk-from_err}
use Rattle.std.proofs.Common.{map, map-id, subst, sym, ◌∙◌}
use Rattle.std.specs.List.{AllZip}
use Rattle.std.proofs.lemmas.Iterator.Adapters.{YieldsList-from_vec}
use Rattle.std.proofs.lemmas.Iterator.Consumers.{YieldsList-end}
use Rattle.winnow_tree.specs.TreeContents.{frame_contents}
use Rattle.winnow_tree.specs.Maps.{OnOkOf, FrameMaps}
use Rattle.winnow_tree.proofs.lemmas.MapLemmas.{frames_push}
use Rattle.winnow_tree.proofs.mapping.map_frames.Goals as goal

pub loop-frame-preserved : goal.loop-frame-preserved
loop-frame-preserved g c =
    frames_push (FrameMaps (OnOkOf (goal.O-post g c.args.op.now))) frame_contents frame_contents c.loop-frame.yielded _ _ c.in-Some.frame c.in_ok-one.one c.loop-frame.invariant c.in_ok-one.ensures c.in_ok-push.ensures.items

pub returns : goal.returns
returns g c =
    let h = c.into_iter-frame-iterator.ensures.into_iter_gives in
    let e = sym (map-id c.loop-frame.yielded) ∙ (YieldsList-end (YieldsList-from_vec c.args.frames.items h.0 (h.1 ∙ c.args.frames.ok.0)) c.loop-frame.yielded c.loop-frame.frame-iterator c.loop-frame.yielded_by c.next.result c.next.new.self c.in-None.is c.next.ensures.steps).0 in
    subst (λ xs. AllZip (FrameMaps (OnOkOf (goal.O-post g c.args.op.now))) (map frame_contents xs) (map frame_contents c.loop-frame.mapped.items)) e c.loop-frame.invariant

-- if memory is refused, nothing is promised
pub returns-in_err-one : goal.returns-in_err-one
returns-in_err-one g c = IfOk-from_err _ _ c.from_residual.ensures.0

pub returns-in_err-push : goal.returns-in_err-push
returns-in_err-push g c = IfOk-from_err _ _ c.from_residual-in_err-push.ensures.0
