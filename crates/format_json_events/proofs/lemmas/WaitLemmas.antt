-- A reader of tokens that needs more: what it lacks, and what it has taken.
use Rattle.std.proofs.Common.{◌≡◌, ℕ, ◌<◌, true, false, List, [], ◌∷◌, ◌++◌, length, append-nil, inl, inr, ap, refl, sym, ◌∙◌, subst, arith}
use Rattle.std.proofs.lemmas.Bool.{cases_lt}
use Rattle.winnow_stream.specs.Shortage.{needed}
use Rattle.winnow_parser.specs.Outcome.{Fails, Needs}
use Rattle.winnow_reader.specs.Place.{bytes_at}
use Rattle.winnow_reader.specs.State.{ReaderState, waiting_for}
use Rattle.winnow_reader.specs.Reading.{AwaitsAsked, Lacks}
use Rattle.winnow_reader.specs.Skips.{skipped}
use Rattle.winnow_scan.specs.Waiting.{WaitsByScan}
use Rattle.winnow_reader.specs.Wanted.{size_of}
use Rattle.winnow_reader.proofs.lemmas.AskedLemmas.{asks-now}
use Rattle.format_lemmas.proofs.lemmas.ByteLemmas.{bytes-units}
use Rattle.format_json.specs.Language.{after_blanks}
use Rattle.format_json.specs.TokenAnswers.{MayBecome, OneToken}
use Rattle.format_json.specs.Scan.{IsScanned}
use Rattle.format_json.specs.declared.reading.JsonToken.{JsonToken}
use Rattle.format_json.proofs.lemmas.ScanLemmas.{may-become}
use Rattle.format_json_events.specs.Blanks.{HasTaken, TakesThrough, WaitsOn}
use Rattle.format_json_events.specs.Reading.{Awaits}
use Rattle.format_json_events.proofs.lemmas.BlankLemmas.{after-known}
use Rattle.format_json_events.proofs.lemmas.DroppedLemmas.{taken-waits}

-- ---- What a reader lacks

-- where more bytes may make a token of those ahead, the record asks for more than are there
becomes-lacks : (f : ReaderState JsonToken) → MayBecome (after_blanks f.ahead)
    → Lacks (λ p. OneToken) f
becomes-lacks f becomes =
    let needs : OneToken true (bytes_at f.place f.ahead) (Fails (Needs (needed 1))) = (refl, refl, subst (λ l. MayBecome (after_blanks l)) (sym (bytes-units f.ahead)) becomes) in
    ([], (1, (record { front = f.ahead; need = needed 1; whole = sym (append-nil f.ahead); needs = needs; size = refl }, omega arith)))

-- fewer than one byte are none
none-less : (bytes : List ℕ) → length bytes < 1 → bytes ≡ []
none-less [] less = refl
none-less (b ∷ bytes) less = absurd (omega (arith, less))

-- and the other way
lacks-becomes : (f : ReaderState JsonToken) → Lacks (λ p. OneToken) f
    → MayBecome (after_blanks f.ahead)
lacks-becomes f (rest, (n, (asks, less))) =
    let one : n ≡ 1 = asks.size ∙ ap size_of asks.needs.1 in
    let none = none-less rest (omega (arith, one, less)) in
    let whole : f.ahead ≡ asks.front = asks.whole ∙ ap (λ l. asks.front ++ l) none ∙ append-nil asks.front in
    subst (λ l. MayBecome (after_blanks l)) (bytes-units asks.front ∙ sym whole) asks.needs.2

-- ---- A reader that waits by the scan of a token

-- the reader needs more by the scan
abbrev Scans : ReaderState JsonToken → ReaderState JsonToken → Type 0
Scans old new = WaitsByScan (λ (p : JsonToken). OneToken) (λ (p : JsonToken). IsScanned) old new

-- it asked for more than came since
lacks-scanned : (old new : ReaderState JsonToken) → Scans old new
    → AwaitsAsked (λ p. OneToken) old → Lacks (λ p. OneToken) old
lacks-scanned old new (goes, lacks, wants, is) asked =
    elim (cases_lt (length old.ahead) old.wanted) [
      | inl less ↦
          let a = asked (omega (arith, less)) in
          (a.0, (a.1.0, (a.1.1.0, omega (arith, less, a.1.1.1))))
      | inr enough ↦ elim (wants enough) [
        | inl m ↦ becomes-lacks old (subst (λ l. MayBecome (after_blanks l)) (bytes-units old.ahead) m.1.0.2)
        | inr scans ↦ becomes-lacks old (may-become scans.0.0.part (after_blanks old.ahead) scans.0.0.tail scans.0.1.0)
      ]
    ]

-- so it is awaited
pub awaits-scanned : (old new : ReaderState JsonToken) → Scans old new → Awaits old
awaits-scanned old new scans = (scans.0, λ input tokens h. lacks-scanned old new scans h.awaits)

module _ (old new : ReaderState JsonToken) (scans : Scans old new) (early : old.ended ≡ false → length old.ahead < old.wanted → new ≡ old) where
  -- and where it waits then, the record asked for what it waits for
  waits-asked : AwaitsAsked (λ p. OneToken) old → AwaitsAsked (λ p. OneToken) new
  waits-asked asked =
      elim (cases_lt (length old.ahead) old.wanted) [
        | inl less ↦ subst (λ (f : ReaderState JsonToken). AwaitsAsked (λ p. OneToken) f) (sym (early scans.0 less)) asked
        | inr enough ↦ elim (scans.2 enough) [
          | inl m ↦
              subst (λ (f : ReaderState JsonToken). AwaitsAsked (λ p. OneToken) f) (sym scans.3)
              (λ l. ([], (size_of m.0, (asks-now (λ (p : JsonToken). OneToken) old m.0 m.1.0, omega (arith, m.1.1)))))
          | inr still ↦ subst (λ (f : ReaderState JsonToken). AwaitsAsked (λ p. OneToken) f) (sym still.1) asked
        ]
      ]

  -- what was taken stays taken
  pub taken-scanned : TakesThrough old new
  taken-scanned input tokens h =
      let asked = subst (λ (f : ReaderState JsonToken). AwaitsAsked (λ p. OneToken) f) scans.3 (waits-asked h.awaits) in
      subst (λ f. HasTaken f input tokens) (sym scans.3) (taken-waits old new.wanted asked input tokens h)

-- ---- A reader that waits

-- a reader that waits has ended as before
pub waits-ended : (old new : ReaderState JsonToken) → WaitsOn old new → new.ended ≡ old.ended
waits-ended old new (wanted, inl (n, (some, are, rest, is))) = ap (λ f. f.ended) is
waits-ended old new (wanted, inr (none, is)) = ap (λ f. f.ended) is

-- it lacks what it lacked before blanks were dropped
pub waits-lacks : (old new : ReaderState JsonToken) → WaitsOn old new → Lacks (λ p. OneToken) old
    → Lacks (λ p. OneToken) new
waits-lacks old new (wanted, inl (n, (some, are, rest, is))) lacks =
    let becomes = subst MayBecome (sym (after-known n old.ahead are)) (lacks-becomes old lacks) in
    subst (λ (f : ReaderState JsonToken). Lacks (λ p. OneToken) f) (sym is) (becomes-lacks (skipped (waiting_for old wanted) n) becomes)
waits-lacks old new (wanted, inr (none, is)) lacks =
    subst (λ (f : ReaderState JsonToken). Lacks (λ p. OneToken) f) (sym is) (becomes-lacks (waiting_for old wanted) (lacks-becomes old lacks))
