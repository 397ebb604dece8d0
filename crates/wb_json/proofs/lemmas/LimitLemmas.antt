-- No token of an input that was printed is too long.
use Rattle.std.proofs.Common.{◌≡◌, ℕ, ◌+◌, ◌≤◌, Bool, true, false, cond, List, [], ◌∷◌, ◌++◌, length, refl, ap, sym, ◌∙◌, subst, inl, inr}
use Rattle.std.specs.Prelude.{Option, None, Some, IfSome, Result, Ok, Err, OnOk}
use Rattle.format_json.specs.Language.{is_blank, after_blanks}
use Rattle.format_json.specs.Tokens.{TokenHere}
use Rattle.format_json.specs.declared.tokens.Token.{Token}
use Rattle.format_json_events.specs.Lengths.{AreShort, IsShort}
use Rattle.format_json_events.specs.declared.event_reader.Event.{Event}
use Rattle.wb_json.specs.Texts.{IsBlank, LineHas, LinesHave, InputHas}
use Rattle.wb_json.specs.Limiting.{AllShort, IsShortInput}
use Rattle.wb_json.specs.Printing.{PrintsAll}
use Rattle.wb_json.specs.declared.settings.Settings.{Settings}
use Rattle.wb_json.specs.declared.failure.Failure.{Failure}

-- one step of `after-blank`
blank-step : (t : Bool) (x : ℕ) (xs text : List ℕ) → is_blank x ≡ t
    → (IsBlank xs → after_blanks (xs ++ text) ≡ after_blanks text) → IsBlank (x ∷ xs)
    → after_blanks (x ∷ (xs ++ text)) ≡ after_blanks text
blank-step true x xs text e more is =
    let whole : after_blanks (x ∷ xs) ≡ after_blanks xs = ap (λ t. cond t (after_blanks xs) (x ∷ xs)) e in
    ap (λ t. cond t (after_blanks (xs ++ text)) (x ∷ (xs ++ text))) e ∙ more (sym whole ∙ is)
blank-step false x xs text e more is =
    let whole : after_blanks (x ∷ xs) ≡ x ∷ xs = ap (λ t. cond t (after_blanks xs) (x ∷ xs)) e in
    let none : x ∷ xs ≡ [] = sym whole ∙ is in
    cc none

-- what follows the blanks of a text follows them after more blanks
after-blank : (xs text : List ℕ) → IsBlank xs → after_blanks (xs ++ text) ≡ after_blanks text
after-blank [] text is = refl
after-blank (x ∷ xs) text is =
    blank-step (is_blank x) x xs text refl (after-blank xs text) is

-- short tokens are short after more blanks
short-after : (limit : ℕ) (tokens : List Token) (bytes text rest : List ℕ)
    → after_blanks bytes ≡ after_blanks text → AreShort limit tokens text rest
    → AreShort limit tokens bytes rest
short-after limit [] bytes text rest same h = same ∙ h
short-after limit (t ∷ tokens) bytes text rest same (after, (h, fits, more)) =
    (after, (subst (λ l. TokenHere false t l after) (sym same) h, subst (λ l. length l ≤ length after + limit) (sym same) fits, more))

-- no token of a line is too long
line-short : (s : Settings) (line : List ℕ) (events : List Event) → LineHas s line events
    → IsShort s.limit line
line-short s line events (inl (blank, none)) = ([], blank)
line-short s line events (inr (blanks, (text, (is, blank, (r, (depth, given, done, (tokens, short))))))) =
    (tokens, short-after s.limit tokens line text [] (ap after_blanks is ∙ after-blank blanks text blank) short)

-- nor of lines
lines-short : (s : Settings) (lines : List (List ℕ)) (events : List Event)
    → LinesHave s lines events → AllShort s.limit lines
lines-short s [] events none = tt
lines-short s (line ∷ lines) events (first, (rest, (is, has, have))) =
    (line-short s line first has, lines-short s lines rest have)

-- nor of an input
input-short : (by_lines : Bool) (s : Settings) (input : List ℕ) (events : List Event)
    → InputHas by_lines s input events → IsShortInput by_lines s.limit input
input-short false s input events (r, (depth, given, done, short)) = short
input-short true s input events (lines, (last, (is, are, have))) =
    (lines, (last, (is, are, lines-short s (lines ++ last ∷ []) events have)))

-- nor of an input that is printed whole, if it is known
pub within-known : (s : Settings) (held now input : Option (List ℕ))
    (result : Result (Unit {0}) Failure)
    → OnOk result (IfSome input (λ bytes. PrintsAll s bytes held now))
    → OnOk result (IfSome input (λ bytes. IsShortInput s.by_lines s.limit bytes))
within-known s held now None (Ok done) h = tt
within-known s held now (Some bytes) (Ok done) (events, (has, wrote)) =
    input-short s.by_lines s bytes events has
within-known s held now input (Err failure) h = tt
