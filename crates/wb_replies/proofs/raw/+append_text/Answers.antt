use Rattle.std.proofs.Common.{◌++◌, map, take, ap, sym, ◌∙◌}
use Rattle.std.proofs.lemmas.List.{take_all}
use Rattle.wb_replies.specs.Raw.{raw, raw_entries, separator}
use Rattle.wb_replies.proofs.lemmas.LineLemmas.{appends-entry}
use Rattle.wb_replies.proofs.lemmas.RawLemmas.{raw_entries-next, raw-array}
use Rattle.wb_replies.proofs.raw.+append_text.Goals as goal

pub loop-index-preserved : goal.loop-index-preserved
loop-index-preserved t c =
    let i = c.loop-index.index in
    let items = c.deref-one-items.result.now in
    let one = c.one-item.result in
    let base = c.args.text.now.items in
    let mid = c.append_separator.new.text.items in
    let so_far = raw_entries 0 (map raw (take i items)) in
    let rest = c.in_ok-append_text-in-Array.ensures ∙ ap (λ r. mid ++ raw r) c.one-item.is in
    appends-entry base so_far (separator i) _ _ mid _ c.loop-index.invariant c.in_ok-append_separator-in-Array.ensures rest
    ∙ ap (λ t. base ++ t) (sym (raw_entries-next raw items i one c.loop-index-test.true))

pub returns-after-loop-index : goal.returns-after-loop-index
returns-after-loop-index t c =
    let replies = c.in-Array.replies in
    let all = rw (take_all c.loop-index.index c.deref-one-items.result.now c.loop-index-test.false, c.deref-one-items.ensures.value) at c.loop-index.invariant in
    all ∙ ap (λ s. c.args.text.now.items ++ s) (sym (raw-array c.args.reply.now replies c.in-Array.is))
