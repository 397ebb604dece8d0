use Rattle.std.proofs.Common.{◌≡◌, ◌++◌, map, take, ap, sym, ◌∙◌, subst}
use Rattle.std.specs.Prelude.{OnOk}
use Rattle.wb_replies.specs.Raw.{raw_entries, separator}
use Rattle.wb_replies.proofs.lemmas.LineLemmas.{appends-entry}
use Rattle.wb_replies.proofs.lemmas.RawLemmas.{raw_entries-next}
use Rattle.wb_replies3.specs.Raw.{raw, raw_pair}
use Rattle.wb_replies3.proofs.lemmas.RawLemmas.{raw-map, pair-raw-appended}
use Rattle.wb_replies3.proofs.raw.+raw.Goals as goal

pub append_text-returns-in-Map : goal.append_text-returns-in-Map
append_text-returns-in-Map t c =
    let text = c.append_text_pairs.new.text.items in
    let held = c.deref-in-Map.result.now in
    subst (λ s. OnOk c.append_text_pairs.result (text ≡ c.args.text.now.items ++ s))
    (sym (raw-map c.args.reply.now c.in-Map.pairs held c.in-Map.is c.deref-in-Map.ensures.value)) c.append_text_pairs.ensures

pub append_texts-loop-index-preserved : goal.append_texts-loop-index-preserved
append_texts-loop-index-preserved t c =
    let i = c.loop-index.index in
    let items = c.args.replies.now in
    let one = c.index-replies-index.result in
    let base = c.args.text.now.items in
    let mid = c.append_separator.new.text.items in
    let so_far = raw_entries 0 (map raw (take i items)) in
    let rest = c.in_ok-append_text.ensures ∙ ap (λ r. mid ++ raw r) c.index-replies-index.is in
    appends-entry base so_far (separator i) _ _ mid _ c.loop-index.invariant c.in_ok-append_separator.ensures rest
    ∙ ap (λ t. base ++ t) (sym (raw_entries-next raw items i one c.loop-index-test.true))

pub append_text_pairs-loop-index-preserved : goal.append_text_pairs-loop-index-preserved
append_text_pairs-loop-index-preserved t c =
    let i = c.loop-index.index in
    let items = c.args.pairs.now in
    let one = c.index-pairs-index.result in
    let base = c.args.text.now.items in
    let mid = c.append_separator.new.text.items in
    let so_far = raw_entries 0 (map raw_pair (take i items)) in
    let rest = pair-raw-appended one _ mid _ _ _ c.index-pairs-index.is c.in_ok-append_text.ensures c.in_ok-append_bytes.ensures c.in_ok-append_text-2.ensures in
    appends-entry base so_far (separator i) _ _ mid _ c.loop-index.invariant c.in_ok-append_separator.ensures rest
    ∙ ap (λ t. base ++ t) (sym (raw_entries-next raw_pair items i one c.loop-index-test.true))
