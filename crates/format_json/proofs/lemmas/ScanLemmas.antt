-- A scan of a token goes on while the parser needs more.
use Rattle.std.specs.Prelude.{Bool, true, false, not, if◌then◌else◌}
use Rattle.std.proofs.Common.{◌≡◌, ℕ, List, [], ◌∷◌, ◌++◌, length, take, refl, ap, sym, ◌∙◌, subst, inl, arith}
use Rattle.std.proofs.lemmas.List.{take_all}
use Rattle.winnow_stream.specs.Shortage.{needed}
use Rattle.winnow_scan.specs.Scanning.{AwaitsMore}
use Rattle.format_lemmas.specs.Bytes.{Each, StartsWith}
use Rattle.format_lemmas.proofs.lemmas.ByteLemmas.{some, bytes-units}
use Rattle.format_json_scalars.specs.Numbers.{is_number_byte}
use Rattle.format_json_scalars.specs.Escapes.{MayBeChar}
use Rattle.format_json_scalars.specs.Tails.{EndsInTail}
use Rattle.format_json_scalars.proofs.lemmas.StringLemmas.{read-stops}
use Rattle.format_json_scalars.proofs.lemmas.TailLemmas.{text-begins, text-some}
use Rattle.format_json.specs.Language.{is_blank, after_blanks}
use Rattle.format_json.specs.TokenAnswers.{MayBecome, OneToken}
use Rattle.format_json.specs.TokenLaws.{after-longer}
use Rattle.format_json.specs.Scan.{IsIn, IsScanned}
use Rattle.format_json.specs.declared.scan.Part.{Part}
use Rattle.format_json.specs.declared.scan.Part.TheVariants.{Blanks, Number, Text}
use Rattle.format_json.specs.declared.scan.TokenScan.{TokenScan}
use Rattle.format_json.proofs.lemmas.JsonTokenLemmas.{string-needs}

-- ---- Blanks

-- a step of `blanks-none`
none-step : (t : Bool) (b : ℕ) (bs more : List ℕ)
    → (after_blanks bs ≡ [] → after_blanks (bs ++ more) ≡ after_blanks more)
    → (if t then after_blanks bs else b ∷ bs) ≡ []
    → (if t then after_blanks (bs ++ more) else b ∷ (bs ++ more)) ≡ after_blanks more
none-step true b bs more far e = far e
none-step false b bs more far e = absurd (cc e)

-- after blanks alone comes what comes after more blanks
pub blanks-none : (bs more : List ℕ) → after_blanks bs ≡ []
    → after_blanks (bs ++ more) ≡ after_blanks more
blanks-none [] more e = refl
blanks-none (b ∷ bs) more e = none-step (is_blank b) b bs more (blanks-none bs more) e

-- one byte that is a blank
pub one-blank : (b : ℕ) → is_blank b ≡ true → after_blanks (b ∷ []) ≡ []
one-blank b e = ap (λ t. if t then [] else b ∷ []) e

-- one byte that is none
pub one-other : (b : ℕ) → is_blank b ≡ false → after_blanks (b ∷ []) ≡ b ∷ []
one-other b e = ap (λ t. if t then [] else b ∷ []) e

-- ---- Tokens

-- more bytes may make a token of what is scanned of one
pub may-become : (part : Part) (here tail : List ℕ) → IsIn part here tail → MayBecome here
may-become Blanks here tail h = inl (subst (Each is_number_byte) (sym h.0) tt)
may-become Number here tail h = inl h.1
may-become Text here tail (n, (value, (read, is, no_quote, may))) =
    string-needs here n (subst (StartsWith 34) (sym read.1.1.1.0) refl)
    (read-stops here value n read (subst (λ l. ¬ (StartsWith 34 l)) (sym is) no_quote), subst MayBeChar (sym is) may)

-- so the parser needs more
pub awaits-token : (bytes : List ℕ) (scan : TokenScan) → IsScanned bytes scan
    → AwaitsMore OneToken bytes
awaits-token bytes scan h place =
    inl (needed 1, (refl, refl, subst (λ l. MayBecome (after_blanks l)) (sym (bytes-units bytes)) (may-become scan.part (after_blanks bytes) scan.tail h)))

-- where a test holds of bytes and of one more
each-end : (test : ℕ → Bool) (xs : List ℕ) (b : ℕ) → Each test xs → test b ≡ true
    → Each test (xs ++ b ∷ [])
each-end test [] b h e = (e, tt)
each-end test (x ∷ xs) b h e = (h.0, each-end test xs b h.1 e)

module _ (part : Part) (bytes tail : List ℕ) (b : ℕ) (h : IsIn part (after_blanks bytes) tail) where
  -- after blanks a blank may come
  pub blank-comes : part ≡ Blanks → is_blank b ≡ true
      → IsIn Blanks (after_blanks (bytes ++ b ∷ [])) tail
  blank-comes e blank =
      let was = subst (λ q. IsIn q (after_blanks bytes) tail) e h in
      (blanks-none bytes (b ∷ []) was.0 ∙ one-blank b blank, was.1)

  -- or a quote
  pub quote-comes : part ≡ Blanks → b ≡ 34 → IsIn Text (after_blanks (bytes ++ b ∷ [])) tail
  quote-comes e quote =
      let was = subst (λ q. IsIn q (after_blanks bytes) tail) e h in
      let here : after_blanks (bytes ++ b ∷ []) ≡ 34 ∷ [] =
      blanks-none bytes (b ∷ []) was.0 ∙ ap (λ c. after_blanks (c ∷ [])) quote in
      subst (λ t. EndsInTail (after_blanks (bytes ++ b ∷ [])) t) (sym was.1) (subst (λ l. EndsInTail l []) (sym here) text-begins)

  -- or a byte of a number
  pub digit-comes : part ≡ Blanks → is_blank b ≡ false → is_number_byte b ≡ true
      → IsIn Number (after_blanks (bytes ++ b ∷ [])) tail
  digit-comes e other digit =
      let was = subst (λ q. IsIn q (after_blanks bytes) tail) e h in
      let here = blanks-none bytes (b ∷ []) was.0 ∙ one-other b other in
      ((λ none. let f = sym here ∙ none in cc f), subst (Each is_number_byte) (sym here) (digit, tt))

  -- after bytes of a number one more may come
  pub digit-follows : part ≡ Number → is_number_byte b ≡ true
      → IsIn Number (after_blanks (bytes ++ b ∷ [])) tail
  digit-follows e digit =
      let was = subst (λ q. IsIn q (after_blanks bytes) tail) e h in
      let here = after-longer bytes (b ∷ []) was.0 in
      ((λ none. some (after_blanks bytes) [] b (sym here ∙ none)), subst (Each is_number_byte) (sym here) (each-end is_number_byte (after_blanks bytes) b was.1 digit))

  -- and in a string what keeps it
  pub text-follows : (new : List ℕ) → part ≡ Text
      → (EndsInTail (after_blanks bytes) tail → EndsInTail (after_blanks bytes ++ b ∷ []) new)
      → IsIn Text (after_blanks (bytes ++ b ∷ [])) new
  text-follows new e stays =
      let was = subst (λ q. IsIn q (after_blanks bytes) tail) e h in
      subst (λ l. EndsInTail l new) (sym (after-longer bytes (b ∷ []) (text-some (after_blanks bytes) tail was))) (stays was)

-- what is not false is true
pub not-false : (b : Bool) → not b ≡ false → b ≡ true
not-false true e = refl
not-false false e = absurd (cc e)

-- a scan that went over all bytes that came
pub scanned-all : (front more : List ℕ) (n : ℕ) (scan : TokenScan) → n ≡ length more
    → IsScanned (front ++ take n more) scan → IsScanned (front ++ more) scan
scanned-all front more n scan e h =
    subst (λ l. IsScanned (front ++ l) scan) (take_all n more (omega (arith, e))) h
