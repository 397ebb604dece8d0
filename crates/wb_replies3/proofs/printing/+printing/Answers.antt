use Rattle.std.proofs.Common.{◌≡◌, ◌+◌, ◌<◌, ◌++◌, length, map, take, ap, sym, ◌∙◌, subst, arith}
use Rattle.std.specs.Prelude.{OnOk, codes}
use Rattle.std.proofs.lemmas.Bool.Decides.{nat_tests}
use Rattle.std.proofs.lemmas.List.{take_all}
use Rattle.wb_replies.specs.Lines.{widened, entries, entry_start}
use Rattle.wb_replies.proofs.lemmas.LineLemmas.{entries-next, appends-entry, list_shown-empty, list_shown-entries, no-length}
use Rattle.wb_replies3.specs.Printing.{shown, shown_pair, breaks, break_before}
use Rattle.wb_replies3.proofs.lemmas.PrintingLemmas.{shown-big, shape-array, shape-set, shape-push, shown-list, shown-map, pair-appended}
use Rattle.wb_replies3.proofs.printing.+printing.Goals as goal

pub append_after-returns-in-BigNumber : goal.append_after-returns-in-BigNumber
append_after-returns-in-BigNumber t c =
    let text = c.append_line-in-BigNumber.new.text.items in
    let held = c.deref-in-BigNumber.result.now in
    subst (λ s. OnOk c.append_line-in-BigNumber.result (text ≡ c.args.text.now.items ++ s))
    (sym (shown-big c.args.reply.now c.in-BigNumber.number held c.args.margin.now c.in-BigNumber.is c.deref-in-BigNumber.ensures.value)) c.append_line-in-BigNumber.ensures

pub append_after-returns-in-Array : goal.append_after-returns-in-Array
append_after-returns-in-Array t c =
    let text = c.append_list.new.text.items in
    let y = c.args.reply.now in
    let held = c.deref-in-Array.result.now in
    subst (λ s. OnOk c.append_list.result (text ≡ c.args.text.now.items ++ s))
    (sym (shown-list y 41 (codes "(empty array)") c.in-Array.replies.items held (shape-array y c.in-Array.replies c.in-Array.is) c.deref-in-Array.ensures.value c.args.margin.now)) c.append_list.ensures

pub append_after-returns-in-Map : goal.append_after-returns-in-Map
append_after-returns-in-Map t c =
    let text = c.append_pairs.new.text.items in
    let held = c.deref-in-Map.result.now in
    subst (λ s. OnOk c.append_pairs.result (text ≡ c.args.text.now.items ++ s))
    (sym (shown-map c.args.reply.now c.in-Map.pairs held c.in-Map.is c.deref-in-Map.ensures.value c.args.margin.now)) c.append_pairs.ensures

pub append_after-returns-in-Set : goal.append_after-returns-in-Set
append_after-returns-in-Set t c =
    let text = c.append_list-in-Set.new.text.items in
    let y = c.args.reply.now in
    let held = c.deref-in-Set.result.now in
    subst (λ s. OnOk c.append_list-in-Set.result (text ≡ c.args.text.now.items ++ s))
    (sym (shown-list y 126 (codes "(empty set)") c.in-Set.replies.items held (shape-set y c.in-Set.replies c.in-Set.is) c.deref-in-Set.ensures.value c.args.margin.now)) c.append_list-in-Set.ensures

pub append_after-returns-in-Push : goal.append_after-returns-in-Push
append_after-returns-in-Push t c =
    let text = c.append_list-in-Push.new.text.items in
    let y = c.args.reply.now in
    let held = c.deref-in-Push.result.now in
    subst (λ s. OnOk c.append_list-in-Push.result (text ≡ c.args.text.now.items ++ s))
    (sym (shown-list y 41 (codes "(empty push)") c.in-Push.replies.items held (shape-push y c.in-Push.replies c.in-Push.is) c.deref-in-Push.ensures.value c.args.margin.now)) c.append_list-in-Push.ensures

pub append_list-loop-index-preserved : goal.append_list-loop-index-preserved
append_list-loop-index-preserved t c =
    let i = c.loop-index.index in
    let items = c.args.replies.now in
    let one = c.index-replies-index.result in
    let mark = c.args.mark in
    let margin = c.args.margin.now in
    let width = c.digits_of-width.result in
    let base = c.args.text.now.items in
    let mid = c.append_entry_start.new.text.items in
    let so_far = entries mark margin width 0 (map shown (take i items)) in
    let inner = c.deref.ensures.value ∙ c.in_ok-inner.ensures in
    let rest = c.in_ok-append_after.ensures ∙ ap (λ m. mid ++ shown one m) inner
    ∙ ap (λ r. mid ++ shown r (widened margin (width + 2))) c.index-replies-index.is in
    appends-entry base so_far (entry_start mark margin width i) _ _ mid _ c.loop-index.invariant c.in_ok-append_entry_start.ensures rest
    ∙ ap (λ t. base ++ t) (sym (entries-next shown mark margin width items i one c.loop-index-test.true))

pub append_list-returns : goal.append_list-returns
append_list-returns t c =
    let items = c.args.replies.now in
    let all = rw (take_all c.loop-index.index items c.loop-index-test.false) at c.loop-index.invariant in
    let some : 0 < length items = grind (arith, nat_tests, c.is_empty.ensures, c.if-is_empty.false) in
    all ∙ ap (λ s. c.args.text.now.items ++ s) (sym (list_shown-entries shown c.args.mark c.args.empty.now c.args.margin.now items c.digits_of-width.result some c.digits_of-width.ensures.digits))

pub append_list-returns-then-is_empty : goal.append_list-returns-then-is_empty
append_list-returns-then-is_empty t c =
    let items = c.args.replies.now in
    let none : length items ≡ 0 = grind (arith, nat_tests, c.is_empty.ensures, c.if-is_empty.true) in
    let line = c.append_line.new.text.items in
    subst (λ s. OnOk c.append_line.result (line ≡ c.args.text.now.items ++ s))
    (sym (list_shown-empty shown c.args.mark c.args.empty.now c.args.margin.now items (no-length items none))) c.append_line.ensures

pub append_pairs-loop-index-preserved : goal.append_pairs-loop-index-preserved
append_pairs-loop-index-preserved t c =
    let i = c.loop-index.index in
    let items = c.args.pairs.now in
    let one = c.index-pairs-index.result in
    let margin = c.args.margin.now in
    let width = c.digits_of-width.result in
    let inner = widened margin (width + 2) in
    let base = c.args.text.now.items in
    let mid = c.append_entry_start.new.text.items in
    let key = c.append_after.new.text.items in
    let so_far = entries 35 margin width 0 (map shown_pair (take i items)) in
    let wide = c.deref.ensures.value ∙ c.in_ok-inner.ensures in
    let wide_too = c.deref-in-loop-index-3.ensures.value ∙ c.in_ok-inner.ensures in
    let wide_between = c.deref-in-loop-index-2.ensures.value ∙ c.in_ok-inner.ensures in
    let first = c.in_ok-append_after.ensures ∙ ap (λ t. t ++ shown one.0 c.deref.result.now) c.new-key.ensures.items ∙ ap (shown one.0) wide in
    let broken = c.in_ok-append_break.ensures ∙ ap (λ is_due. c.append_key.new.text.items ++ break_before is_due c.deref-in-loop-index-2.result.now) c.breaks.ensures
    ∙ ap (λ m. c.append_key.new.text.items ++ break_before (breaks one.1) m) wide_between in
    let second = c.in_ok-append_after-2.ensures ∙ ap (λ m. c.append_break.new.text.items ++ shown one.1 m) wide_too in
    let rest = pair-appended one _ inner key c.deref-in-loop-index.result.now mid c.append_key.new.text.items c.append_break.new.text.items c.append_after-in-loop-index.new.text.items c.index-pairs-index.is first c.deref-in-loop-index.ensures.value c.in_ok-append_key.ensures broken second in
    appends-entry base so_far (entry_start 35 margin width i) _ _ mid _ c.loop-index.invariant c.in_ok-append_entry_start.ensures rest
    ∙ ap (λ t. base ++ t) (sym (entries-next shown_pair 35 margin width items i one c.loop-index-test.true))

pub append_pairs-returns : goal.append_pairs-returns
append_pairs-returns t c =
    let items = c.args.pairs.now in
    let all = rw (take_all c.loop-index.index items c.loop-index-test.false) at c.loop-index.invariant in
    let some : 0 < length items = grind (arith, nat_tests, c.is_empty.ensures, c.if-is_empty.false) in
    all ∙ ap (λ s. c.args.text.now.items ++ s) (sym (list_shown-entries shown_pair 35 (codes "(empty hash)") c.args.margin.now items c.digits_of-width.result some c.digits_of-width.ensures.digits))

pub append_pairs-returns-then-is_empty : goal.append_pairs-returns-then-is_empty
append_pairs-returns-then-is_empty t c =
    let items = c.args.pairs.now in
    let none : length items ≡ 0 = grind (arith, nat_tests, c.is_empty.ensures, c.if-is_empty.true) in
    let line = c.append_line.new.text.items in
    subst (λ s. OnOk c.append_line.result (line ≡ c.args.text.now.items ++ s))
    (sym (list_shown-empty shown_pair 35 (codes "(empty hash)") c.args.margin.now items (no-length items none))) c.append_line.ensures
