-- Lemmas on looking at the text of a field.
use Rattle.std.specs.Prelude.{Bool, zero, suc, ◌<◌, drop, take, Some, None}
use Rattle.std.proofs.Common.{◌≡◌, ℕ, ◌+◌, ◌≤◌, true, false, List, [], ◌∷◌, ◌++◌, length, refl, ap, sym, ◌∙◌, subst, arith, length-drop}
use Rattle.std.proofs.Math.Seq.{take-add, drop-length}
use Rattle.std.proofs.lemmas.List.{drop-drop, drop-append-le, take-append-le, append_assoc, append-nil, length-append}
use Rattle.std.proofs.lemmas.List.Concat.{flat_map-append}
use Rattle.memchr.specs.Find.{IsFirstByte, is_byte}
use Rattle.format_lemmas.specs.Bytes.{Each, StartsWith, Starts}
use Rattle.format_csv.specs.Fields.{is_plain, twice, doubled}
use Rattle.format_csv.specs.Meanings.{is_other}
use Rattle.format_csv.proofs.lemmas.ByteLemmas.{doubled-others}
use Rattle.format_csv.proofs.lemmas.FillByteLemmas.{no-quote, before-quote, at-quote}
use Rattle.format_csv.proofs.lemmas.FillQuoteLemmas.{chunk-more, quote-more}
use Rattle.format_csv_fields.specs.declared.looking.Looked.{Looked}
use Rattle.format_csv_fields.specs.declared.looking.Looked.TheVariants as looked
use Rattle.format_csv_fields.specs.declared.looking.Text.{Text}
use Rattle.format_csv_fields.specs.declared.looking.Text.TheVariants.{Plain, Quoted, Open}
use Rattle.format_csv_fields.specs.Looking.{HasQuotes, IsLooked, IsText, looked_at}

-- the test holds of each byte of two lists, if it holds of each byte of both
pub each-both : (test : ℕ → Bool) (xs ys : List ℕ) → Each test xs → Each test ys
    → Each test (xs ++ ys)
each-both test [] ys h k = k
each-both test (x ∷ xs) ys h k = (h.0, each-both test xs ys h.1 k)

-- bytes of which the first is plain start with no quote
plain-first : (bytes : List ℕ) (at : ℕ) → 0 < at → Each is_plain (take at bytes)
    → ¬ (StartsWith 34 bytes)
plain-first [] at l h s = s
plain-first (b ∷ bytes) zero l h s = omega (arith, l)
plain-first (b ∷ bytes) (suc at) l h s =
    let x : false ≡ true = subst (λ c. is_plain c ≡ true) s h.0 in cc

-- after plain bytes further plain bytes are the text, if no plain byte follows
pub plain-on : (bytes rest : List ℕ) (at n : ℕ) → rest ≡ drop at bytes → 0 < at
    → IsLooked bytes (looked.Plain at) → n ≤ length rest → Each is_plain (take n rest)
    → ¬ (Starts is_plain (drop n rest)) → IsText bytes (Plain (at + n))
plain-on bytes rest at n e some (l, each) within plain ends = (
  omega (arith, l, within, ap length e, length-drop at bytes),
  subst (Each is_plain) (sym (take-add at n bytes))
      (each-both is_plain (take at bytes) (take n (drop at bytes)) each (subst (λ r. Each is_plain (take n r)) e plain)),
  subst (λ r. ¬ (Starts is_plain r)) (ap (drop n) e ∙ drop-drop n at bytes) ends,
  plain-first bytes at some each,
)

module _ (bytes value rest : List ℕ) (at : ℕ) (doubles : Bool) (er : rest ≡ drop at bytes) (spelled : bytes ≡ 34 ∷ (doubled value ++ drop at bytes)) (quotes : HasQuotes doubles value) where
  -- there is no further quote
  pub text-open : IsFirstByte (is_byte 34) rest None → IsText bytes (Open doubles)
  text-open h = (value, (drop at bytes, (spelled, subst (Each is_other) er (no-quote rest h), quotes)))

  module _ (n : ℕ) (first : IsFirstByte (is_byte 34) rest (Some n)) (within : at ≤ length bytes) where
    -- the bytes are the value so far, a chunk, and a quote
    chunk-end : bytes ≡ 34 ∷ (doubled (value ++ take n rest) ++ 34 ∷ drop (at + n + 1) bytes)
    chunk-end =
        spelled ∙ ap (λ t. 34 ∷ t)
        (chunk-more (doubled value ++ drop at bytes) rest value n (ap (λ t. doubled value ++ t) (sym er)) first
        ∙ ap (λ t. doubled (value ++ take n rest) ++ 34 ∷ t)
        (ap (drop (n + 1)) er ∙ drop-drop (n + 1) at bytes ∙ ap (λ k. drop k bytes) (omega arith)))

    -- the quote is within the bytes
    chunk-within : at + n + 1 ≤ length bytes
    chunk-within = omega (arith, within, first.0.high, ap length er, length-drop at bytes)

    -- the quote stands after the chunk
    chunk-quote : drop (at + n) bytes ≡ 34 ∷ drop (at + n + 1) bytes
    chunk-quote =
        sym (drop-drop n at bytes) ∙ ap (drop n) (sym er) ∙ at-quote rest n first
        ∙ ap (λ t. 34 ∷ t) (ap (drop (n + 1)) er ∙ drop-drop (n + 1) at bytes ∙ ap (λ k. drop k bytes) (omega arith))

    -- the chunk has no quote
    chunk-quotes : HasQuotes doubles (value ++ take n rest)
    chunk-quotes e = each-both is_other value (take n rest) (quotes e) (before-quote rest n first)

    -- if no quote follows the quote, it closes the field
    pub text-quoted : ¬ (StartsWith 34 (drop (at + n + 1) bytes))
        → IsText bytes (Quoted (at + n) doubles)
    text-quoted other =
        (chunk-within, chunk-quote, (value ++ take n rest, ((chunk-end, other), chunk-quotes)))

    -- if a quote follows it, both are one of the value
    pub text-doubled : drop (at + n + 1) bytes ≡ 34 ∷ drop (at + n + 1 + 1) bytes
        → IsLooked bytes (looked.Quoted (at + n + 2) true)
    text-doubled quote = (
      omega (arith, ap length quote, length-drop (at + n + 1) bytes),
      (
        (value ++ take n rest) ++ 34 ∷ [],
        (
          chunk-end ∙ ap (λ t. 34 ∷ t)
              (quote-more (doubled (value ++ take n rest) ++ 34 ∷ drop (at + n + 1) bytes) (drop (at + n + 1) bytes) (drop (at + n + 2) bytes) (value ++ take n rest) refl (quote ∙ ap (λ k. 34 ∷ drop k bytes) (omega arith))),
          λ e. absurd (let x : true ≡ false = e in cc),
        ),
      ),
    )

-- a quote with which the bytes begin is an opening quote
pub looked-open : (bytes : List ℕ) → drop 0 bytes ≡ 34 ∷ drop 1 bytes
    → IsLooked bytes (looked.Quoted 1 false)
looked-open bytes e = (omega (arith, ap length e, length-drop 1 bytes), ([], (e, λ h. tt)))

-- an opening quote, a value and a chunk without quotes are an opening quote and a value
open-spelled : (bytes value chunk : List ℕ) → bytes ≡ 34 ∷ (doubled value ++ chunk)
    → Each is_other chunk → bytes ≡ 34 ∷ (doubled (value ++ chunk) ++ drop (length bytes) bytes)
open-spelled bytes value chunk e others =
    e ∙ ap (λ t. 34 ∷ t)
    (ap (λ d. doubled value ++ d) (sym (doubled-others chunk others)) ∙ sym (flat_map-append twice value chunk)
    ∙ sym (append-nil (doubled (value ++ chunk))) ∙ ap (λ t. doubled (value ++ chunk) ++ t) (sym (drop-length bytes)))

-- bytes whose text is known are looked at as far as it says
pub text-looked : (bytes : List ℕ) (text : Text) → IsText bytes text
    → IsLooked bytes (looked_at bytes text)
text-looked bytes (Plain n) h = (h.0, h.1)
text-looked bytes (Quoted n doubles) (l, quote, (value, ((e, other), quotes))) =
    (omega (arith, l), (value, (e ∙ ap (λ t. 34 ∷ (doubled value ++ t)) (sym quote), quotes)))
text-looked bytes (Open doubles) (value, (chunk, (e, others, quotes))) = (
  omega arith,
  (
    value ++ chunk,
    (
      open-spelled bytes value chunk e others,
      λ h. each-both is_other value chunk (quotes h) others,
    ),
  ),
)

-- bytes that are looked at to some place stay so with a piece after them
pub looked-more : (bytes piece : List ℕ) (l : Looked) → IsLooked bytes l
    → IsLooked (bytes ++ piece) l
looked-more bytes piece (looked.Plain n) (l, each) = (
  omega (arith, l, length-append bytes piece),
  subst (Each is_plain) (sym (take-append-le n bytes piece l)) each,
)
looked-more bytes piece (looked.Quoted n doubles) (l, (value, (e, quotes))) = (
  omega (arith, l, length-append bytes piece),
  (
    value,
    (
      ap (λ t. t ++ piece) e ∙ ap (λ t. 34 ∷ t) (append_assoc (doubled value) (drop n bytes) piece)
          ∙ ap (λ t. 34 ∷ (doubled value ++ t)) (sym (drop-append-le n bytes piece l)),
      quotes,
    ),
  ),
)
