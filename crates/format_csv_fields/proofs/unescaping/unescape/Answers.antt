use Rattle.std.proofs.Common.{◌+◌, ◌++◌, drop, refl, ap, sym, ◌∙◌}
use Rattle.format_csv.specs.Fields.{doubled}
use Rattle.format_csv.proofs.lemmas.ByteLemmas.{closed-once, not-closed}
use Rattle.format_csv.proofs.lemmas.FillByteLemmas.{slice-from}
use Rattle.format_csv.proofs.lemmas.FillQuoteLemmas.{chunk-open, chunk-step, quote-within, quote-more}
use Rattle.format_csv_fields.proofs.unescaping.unescape.Goals as goal

pub returns-in_default : goal.returns-in_default
returns-in_default c = λ field rest closes.
    let l = c.loop-length in
    let xs = c.args.inside.now in
    let torn = chunk-open xs l.value.items _ l.at (slice-from xs l.at) l.invariant.1 c.in_default.ensures in
    absurd (not-closed torn.0 field torn.1.0 rest torn.1.1.1 closes.1 (sym torn.1.1.0 ∙ closes.0))

pub returns-then-not-has_quote : goal.returns-then-not-has_quote
returns-then-not-has_quote c = λ field rest closes.
    let l = c.loop-length in
    let xs = c.args.inside.now in
    let n = c.in-Some.length in
    let value = c.extend_from_slice.new.self.items in
    let step = chunk-step xs l.value.items _ l.at (slice-from xs l.at) l.invariant.1 n c.in-Some.ensures value c.in_ok-extend_from_slice.ensures.items in
    (closed-once value field (drop (l.at + (n + 1)) xs) rest (c.if-not-has_quote.ensures.other refl) closes.1 (sym step ∙ closes.0)).0

pub loop-length-preserved : goal.loop-length-preserved
loop-length-preserved c =
    let l = c.loop-length in
    let xs = c.args.inside.now in
    let n = c.in-Some.length in
    let at = l.at + (n + 1) in
    let value = c.extend_from_slice.new.self.items in
    let quote = c.if-not-has_quote.ensures.quote refl in
    let step = chunk-step xs l.value.items _ l.at (slice-from xs l.at) l.invariant.1 n c.in-Some.ensures value c.in_ok-extend_from_slice.ensures.items in (
      quote-within xs (drop (at + 1) xs) at quote,
      quote-more xs (drop at xs) (drop (at + 1) xs) value step quote
          ∙ ap (λ v. doubled v ++ drop (at + 1) xs) (sym c.in_ok-push.ensures.items),
    )
