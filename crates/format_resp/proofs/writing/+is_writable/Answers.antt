use Rattle.std.proofs.Common.{◌≡◌, rules, false, ap, sym, ◌∙◌}
use Rattle.std.specs.List.{list_all}
use Rattle.std.proofs.lemmas.List.{take_all}
use Rattle.std.proofs.lemmas.List.Folds.{list_all_at}
use Rattle.format_resp.specs.Writing.{is_writable}
use Rattle.format_resp.proofs.lemmas.WritingLemmas.{writable-array}
use Rattle.format_resp.proofs.writing.+is_writable.Goals as goal

pub returns-then-not-is_writable : goal.returns-then-not-is_writable
returns-then-not-is_writable t c =
    let no : c.is_writable.result ≡ false = search rules in
    let one = ap is_writable (sym c.one-item.is) ∙ sym c.is_writable.ensures ∙ no in
    let all = list_all_at is_writable c.deref-one-items.result.now c.loop-one.one-index c.one-item.result c.loop-one-test.true one in
    sym (writable-array c.args.reply.now c.in-Array.replies c.in-Array.is ∙ ap (list_all is_writable) (sym c.deref-one-items.ensures.value) ∙ all)

pub returns-after-loop-one : goal.returns-after-loop-one
returns-after-loop-one t c =
    let all = rw (take_all c.loop-one.one-index c.deref-one-items.result.now c.loop-one-test.false, c.deref-one-items.ensures.value) at c.loop-one.invariant in
    sym (writable-array c.args.reply.now c.in-Array.replies c.in-Array.is ∙ all)
