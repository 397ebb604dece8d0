use Rattle.std.proofs.Common.{◌≡◌, ◌+◌, ◌<◌, ◌++◌, length, map, take, ap, sym, ◌∙◌, subst, rules}
use Rattle.std.specs.Prelude.{OnOk}
use Rattle.std.proofs.lemmas.List.{take_all}
use Rattle.wb_replies.specs.Lines.{widened, entries, entry_start}
use Rattle.wb_replies.specs.Printing.{shown}
use Rattle.wb_replies.proofs.lemmas.LineLemmas.{entries-next, appends-entry, no-length}
use Rattle.wb_replies.proofs.lemmas.PrintingLemmas.{shown-empty, shown-entries}
use Rattle.wb_replies.proofs.printing.+append_after.Goals as goal

pub loop-index-preserved : goal.loop-index-preserved
loop-index-preserved t c =
    let i = c.loop-index.index in
    let items = c.deref-one-items.result.now in
    let one = c.one-item.result in
    let margin = c.args.margin.now in
    let width = c.digits_of-width.result in
    let base = c.args.text.now.items in
    let mid = c.append_entry_start.new.text.items in
    let so_far = entries 41 margin width 0 (map shown (take i items)) in
    let inner = c.deref-in-loop-index.ensures.value ∙ c.in_ok-inner-in-Array.ensures in
    let rest = c.in_ok-append_after-in-Array.ensures ∙ ap (λ m. mid ++ shown one m) inner
    ∙ ap (λ r. mid ++ shown r (widened margin (width + 2))) c.one-item.is in
    appends-entry base so_far (entry_start 41 margin width i) _ _ mid _ c.loop-index.invariant c.in_ok-append_entry_start-in-Array.ensures rest
    ∙ ap (λ t. base ++ t) (sym (entries-next shown 41 margin width items i one c.loop-index-test.true))

pub returns-after-loop-index : goal.returns-after-loop-index
returns-after-loop-index t c =
    let replies = c.in-Array.replies in
    let all = rw (take_all c.loop-index.index c.deref-one-items.result.now c.loop-index-test.false, c.deref-one-items.ensures.value) at c.loop-index.invariant in
    let count : c.len.result ≡ length replies.items = search rules in
    let some : 0 < length replies.items = search rules in
    let digits = rw count at c.digits_of-width.ensures.digits in
    all ∙ ap (λ s. c.args.text.now.items ++ s) (sym (shown-entries c.args.reply.now replies c.args.margin.now c.digits_of-width.result c.in-Array.is some digits))

pub returns-then-is_empty : goal.returns-then-is_empty
returns-then-is_empty t c =
    let none : length c.in-Array.replies.items ≡ 0 = search rules in
    let empty = no-length c.in-Array.replies.items none in
    let line = c.append_line-then-is_empty.new.text.items in
    subst (λ s. OnOk c.append_line-then-is_empty.result (line ≡ c.args.text.now.items ++ s))
    (sym (shown-empty c.args.reply.now c.in-Array.replies c.args.margin.now c.in-Array.is empty)) c.append_line-then-is_empty.ensures
