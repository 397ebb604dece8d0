use Rattle.std.proofs.Common.{map, map-id, subst, sym, ◌∙◌}
use Rattle.std.proofs.lemmas.Result.{IfOk-from_err}
use Rattle.std.proofs.lemmas.Iterator.Adapters.{YieldsList-from_vec}
use Rattle.std.proofs.lemmas.Iterator.Consumers.{YieldsList-end}
use Rattle.winnow_tree.specs.TreeContents.{tree_contents, trees_of}
use Rattle.winnow_tree.specs.Maps.{OnOkOf, TreeMaps, TreesMap}
use Rattle.winnow_tree.proofs.lemmas.MapLemmas.{entries_push, stack_maps, alt_maps}
use Rattle.winnow_tree.proofs.mapping.+map_tree.Goals as goal

pub loop-entry-preserved : goal.loop-entry-preserved
loop-entry-preserved g t c =
    entries_push (OnOkOf (goal.O-post g c.args.op.now)) tree_contents tree_contents c.loop-entry.yielded _ _ c.in-Some.entry c.in_ok-one-in-Alt.one c.loop-entry.invariant c.in_ok-one-in-Alt.ensures c.in_ok-push-in-Alt.ensures.items

pub returns-in_ok-stack-in-Stack : goal.returns-in_ok-stack-in-Stack
returns-in_ok-stack-in-Stack g t c =
    let inner = rw c.into_inner.ensures at c.in_ok-inner-in-Stack.ensures in
    rw c.in-Stack.is (stack_maps (OnOkOf (goal.O-post g c.args.op.now)) c.in-Stack.base c.in-Stack.stack c.in_ok-base-in-Stack.base c.in_ok-stack-in-Stack.stack (subst (λ x. TreeMaps (OnOkOf (goal.O-post g c.args.op.now)) (tree_contents c.in-Stack.base.value) (tree_contents x)) (sym c.in_ok-base-in-Stack.ensures.ok) inner) c.in_ok-stack-in-Stack.ensures)

pub returns-in-None : goal.returns-in-None
returns-in-None g t c =
    let h = c.into_iter-entry-iterator.ensures.into_iter_gives in
    let e = sym (map-id c.loop-entry.yielded) ∙ (YieldsList-end (YieldsList-from_vec c.in-Alt.entries.items h.0 (h.1 ∙ c.in-Alt.entries.ok.0)) c.loop-entry.yielded c.loop-entry.entry-iterator c.loop-entry.yielded_by c.next.result c.next.new.self c.in-None.is c.next.ensures.steps).0 in
    rw c.in-Alt.is (alt_maps (OnOkOf (goal.O-post g c.args.op.now)) c.in-Alt.entries c.loop-entry.mapped (subst (λ xs. TreesMap (OnOkOf (goal.O-post g c.args.op.now)) (trees_of (map tree_contents xs)) (trees_of (map tree_contents c.loop-entry.mapped.items))) e c.loop-entry.invariant))

pub returns-in_err-base-in-Base : goal.returns-in_err-base-in-Base
returns-in_err-base-in-Base g t c = IfOk-from_err _ _ c.from_residual.ensures.0

pub returns-in_err-inner-in-Stack : goal.returns-in_err-inner-in-Stack
returns-in_err-inner-in-Stack g t c = IfOk-from_err _ _ c.from_residual-in_err-inner-in-Stack.ensures.0

pub returns-in_err-base-in-Stack : goal.returns-in_err-base-in-Stack
returns-in_err-base-in-Stack g t c = IfOk-from_err _ _ c.from_residual-in_err-base-in-Stack.ensures.0

pub returns-in_err-stack-in-Stack : goal.returns-in_err-stack-in-Stack
returns-in_err-stack-in-Stack g t c = IfOk-from_err _ _ c.from_residual-in_err-stack-in-Stack.ensures.0

pub returns-in_err-one-in-Alt : goal.returns-in_err-one-in-Alt
returns-in_err-one-in-Alt g t c = IfOk-from_err _ _ c.from_residual-in_err-one-in-Alt.ensures.0

pub returns-in_err-push-in-Alt : goal.returns-in_err-push-in-Alt
returns-in_err-push-in-Alt g t c = IfOk-from_err _ _ c.from_residual-in_err-push-in-Alt.ensures.0

pub map_base-requires : goal.map_base-requires
map_base-requires g t c = c.requires

pub map_frames-requires : goal.map_frames-requires
map_frames-requires g t c = c.requires
