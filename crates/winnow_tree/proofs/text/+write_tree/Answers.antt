use Rattle.std.proofs.lemmas.Result.{IfOk-from_err}
use Rattle.std.proofs.lemmas.List.{take_all}
use Rattle.std.proofs.lemmas.Result.{on_ok_weaker}
use Rattle.winnow_tree.specs.TreeText.{tree_text, deeper}
use Rattle.winnow_tree.proofs.lemmas.TreeTextLemmas.{all_more, writes_base, writes_stack, writes_alt}
use Rattle.winnow_tree.proofs.text.+write_tree.Goals as goal

pub loop-entry-preserved : goal.loop-entry-preserved
loop-entry-preserved g t c =
    let written = rw (c.as_str.ensures.value, c.in_ok-further-in-Alt.ensures.ok) at c.in_ok-write_tree-in-Alt.ensures in
    all_more (λ u. tree_text g.I.Display.output g.C.Display.output u (deeper c.args.indent.now)) c.deref-entry-items.result.now c.loop-entry.entry-index c.entry-item.result c.loop-entry-test.true c.entry-item.is _ _ _ c.loop-entry.invariant written

pub returns-in_ok-push-in-Base : goal.returns-in_ok-push-in-Base
unfolding lib.Utf8.encode
returns-in_ok-push-in-Base g t c =
    writes_base g.I.Display.output g.C.Display.output c.args.tree.now c.in-Base.base c.in-Base.is c.args.indent.now _ _ _ _ c.in_ok-push_str-in-Base.ensures.bytes c.in_ok-write_base-in-Base.ensures c.in_ok-push-in-Base.ensures.bytes

pub returns-in_ok-write_tree-in-Stack : goal.returns-in_ok-write_tree-in-Stack
returns-in_ok-write_tree-in-Stack g t c =
    let base = rw c.deref.ensures at c.in_ok-write_tree-in-Stack.ensures in
    on_ok_weaker c.write_frames.result (λ h. writes_stack g.I.Display.output g.C.Display.output c.args.tree.now c.in-Stack.base c.in-Stack.stack c.in-Stack.is c.args.indent.now _ _ _ base (rw c.deref-in-Stack.ensures.value at h)) c.write_frames.ensures

pub returns-after-loop-entry : goal.returns-after-loop-entry
returns-after-loop-entry g t c =
    let all = rw (take_all c.loop-entry.entry-index c.deref-entry-items.result.now c.loop-entry-test.false, c.deref-entry-items.ensures.value) at c.loop-entry.invariant in
    writes_alt g.I.Display.output g.C.Display.output c.args.tree.now c.in-Alt.entries c.in-Alt.is c.args.indent.now _ _ _ c.in_ok-write-in-Alt.ensures.bytes all

-- if memory is refused, nothing is promised
pub returns-in_err-push_str-in-Base : goal.returns-in_err-push_str-in-Base
returns-in_err-push_str-in-Base g t c = IfOk-from_err _ _ c.from_residual.ensures.0

pub returns-in_err-write_base-in-Base : goal.returns-in_err-write_base-in-Base
returns-in_err-write_base-in-Base g t c = IfOk-from_err _ _ c.from_residual-in_err-write_base-in-Base.ensures.0

pub returns-in_err-push-in-Base : goal.returns-in_err-push-in-Base
returns-in_err-push-in-Base g t c = IfOk-from_err _ _ c.from_residual-in_err-push-in-Base.ensures.0

pub returns-in_err-write_tree-in-Stack : goal.returns-in_err-write_tree-in-Stack
returns-in_err-write_tree-in-Stack g t c = IfOk-from_err _ _ c.from_residual-in_err-write_tree-in-Stack.ensures.0

pub returns-in_err-write-in-Alt : goal.returns-in_err-write-in-Alt
returns-in_err-write-in-Alt g t c = IfOk-from_err _ _ c.from_residual-in_err-write-in-Alt.ensures.0

pub returns-in_err-further-in-Alt : goal.returns-in_err-further-in-Alt
returns-in_err-further-in-Alt g t c = IfOk-from_err _ _ c.from_residual-in_err-further-in-Alt.ensures.0

pub returns-in_err-write_tree-in-Alt : goal.returns-in_err-write_tree-in-Alt
returns-in_err-write_tree-in-Alt g t c = IfOk-from_err _ _ c.from_residual-in_err-write_tree-in-Alt.ensures.0
