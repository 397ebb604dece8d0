-- Lemmas on a field between quotes, whose value is read in chunks between doubled quotes.
use Rattle.std.specs.Prelude.{◌==◌, drop, take, Some, None, slice_index}
use Rattle.std.proofs.Common.{◌≡◌, ℕ, ◌+◌, ◌≤◌, ◌<◌, true, false, List, [], ◌∷◌, ◌++◌, length, ap, sym, ◌∙◌, subst, inl, arith, append_assoc, take-append-drop, drop_of_length-le, length-drop}
use Rattle.std.proofs.lemmas.List.{drop-drop}
use Rattle.std.proofs.lemmas.Bool.Decides.{nat_tests}
use Rattle.std.proofs.lemmas.List.Concat.{flat_map-append}
use Rattle.memchr.specs.Find.{IsFirstByte, is_byte}
use Rattle.format_lemmas.specs.Bytes.{Each, StartsWith}
use Rattle.format_csv.specs.Fields.{twice, doubled}
use Rattle.format_csv.specs.Meanings.{is_other}
use Rattle.format_csv.proofs.lemmas.ByteLemmas.{doubled-others}
use Rattle.format_csv.specs.FillingFields.{IsUnclosedInside, FillsQuoted, FillsField}
use Rattle.format_csv.proofs.lemmas.FillByteLemmas.{from-index, no-quote, before-quote, at-quote}

-- a byte that passes the test for a byte equals it
byte-is : (b n : ℕ) → (b == n) ≡ true → b ≡ n
byte-is b n h = grind (arith, nat_tests, h)

-- if the byte at an index is a quote, the bytes from the index on are a quote and the rest
pub quote-at : (xs : List ℕ) (n : ℕ) → n < length xs → (slice_index xs n == 34) ≡ true
    → drop n xs ≡ 34 ∷ drop (n + 1) xs
quote-at xs n l h = from-index xs n l ∙ ap (λ b. b ∷ drop (n + 1) xs) (byte-is (slice_index xs n) 34 h)

-- bytes that start with a byte other than a quote do not start with a quote
byte-not : (b : ℕ) → (b == 34) ≡ false → ¬ (b ≡ 34)
byte-not b h e = grind (arith, nat_tests, h, e)

-- if the byte at an index is not a quote, the bytes from the index on start with no quote
pub other-at : (xs : List ℕ) (n : ℕ) → n < length xs → (slice_index xs n == 34) ≡ false
    → ¬ (StartsWith 34 (drop n xs))
other-at xs n l h =
    subst (λ ys. ¬ (StartsWith 34 ys)) (sym (from-index xs n l)) (byte-not (slice_index xs n) h)

-- the bytes from an index past the end on start with no quote
pub none-at : (xs : List ℕ) (n : ℕ) → length xs ≤ n → ¬ (StartsWith 34 (drop n xs))
none-at xs n l h = subst (StartsWith 34) (drop_of_length-le xs l) h

-- bytes with a quote are those before the first quote, the quote, and the rest
chunk-first : (xs : List ℕ) (n : ℕ) → IsFirstByte (is_byte 34) xs (Some n)
    → xs ≡ doubled (take n xs) ++ 34 ∷ drop (n + 1) xs
chunk-first xs n h =
    sym (take-append-drop n xs) ∙ ap (λ t. take n xs ++ t) (at-quote xs n h)
    ∙ ap (λ t. t ++ 34 ∷ drop (n + 1) xs) (sym (doubled-others (take n xs) (before-quote xs n h)))

-- a value in chunks and a further chunk are the spelling of the longer value
pub chunk-more : (xs rest value : List ℕ) (n : ℕ) → xs ≡ doubled value ++ rest
    → IsFirstByte (is_byte 34) rest (Some n)
    → xs ≡ doubled (value ++ take n rest) ++ 34 ∷ drop (n + 1) rest
chunk-more xs rest value n e h =
    e ∙ ap (λ t. doubled value ++ t) (chunk-first rest n h)
    ∙ sym (append_assoc (doubled value) (doubled (take n rest)) (34 ∷ drop (n + 1) rest))
    ∙ ap (λ t. t ++ 34 ∷ drop (n + 1) rest) (sym (flat_map-append twice value (take n rest)))

-- a value, a chunk and a doubled quote are the spelling of the value with the chunk and one quote
pub quote-more : (xs s t value : List ℕ) → xs ≡ doubled value ++ 34 ∷ s → s ≡ 34 ∷ t
    → xs ≡ doubled (value ++ 34 ∷ []) ++ t
quote-more xs s t value e f =
    e ∙ ap (λ u. doubled value ++ 34 ∷ u) f ∙ sym (append_assoc (doubled value) (34 ∷ 34 ∷ []) t)
    ∙ ap (λ u. u ++ t) (sym (flat_map-append twice value (34 ∷ [])))

-- pushing a field to a record without an open field appends the field
pub pushed-field : (new old : List (List ℕ)) (part field value : List ℕ)
    → new ≡ old ++ (part ++ field) ∷ [] → part ≡ [] → field ≡ value → new ≡ old ++ value ∷ []
pushed-field new old part field value e p f =
    e ∙ ap (λ q. old ++ (q ++ field) ∷ []) p ∙ ap (λ t. old ++ t ∷ []) f

module _ (xs value rest : List ℕ) (at : ℕ) (er : rest ≡ drop at xs) (spelled : xs ≡ doubled value ++ drop at xs) where
  -- there is no further quote
  pub chunk-open : IsFirstByte (is_byte 34) rest None → IsUnclosedInside xs
  chunk-open h = (value, (drop at xs, (spelled, subst (Each is_other) er (no-quote rest h))))

  module _ (n : ℕ) (first : IsFirstByte (is_byte 34) rest (Some n)) where
    -- the index of the next quote is less than the length
    pub chunk-within : at ≤ length xs → at + (n + 1) ≤ length xs
    chunk-within l = omega (arith, l, first.0.high, ap length er, length-drop at xs)

    -- the bytes are the chunks so far, a chunk, and a quote
    pub chunk-step : (new : List ℕ) → new ≡ value ++ take n rest
        → xs ≡ doubled new ++ 34 ∷ drop (at + (n + 1)) xs
    chunk-step new e =
        chunk-more xs rest value n (spelled ∙ ap (λ t. doubled value ++ t) (sym er)) first
        ∙ ap (λ t. doubled (value ++ take n rest) ++ 34 ∷ t) (ap (drop (n + 1)) er ∙ drop-drop (n + 1) at xs)
        ∙ ap (λ v. doubled v ++ 34 ∷ drop (at + (n + 1)) xs) (sym e)

-- an index at which a quote stands is less than the length
pub quote-within : (xs s : List ℕ) (k : ℕ) → drop k xs ≡ 34 ∷ s → k + 1 ≤ length xs
quote-within xs s k e = omega (arith, ap length e, length-drop k xs)

-- an opening quote and the rest of a field after it are the field
pub field-quoted : (bytes inside : List ℕ) (old new : List (List ℕ)) (n : ℕ)
    → inside ≡ drop 1 bytes → bytes ≡ 34 ∷ drop 1 bytes → FillsQuoted inside old (Some n) new
    → FillsField bytes old (Some (n + 1)) new
field-quoted bytes inside old new n ei e (v, (l, same, closes)) =
    let rest : drop n inside ≡ drop (n + 1) bytes =
    ap (drop n) ei ∙ drop-drop n 1 bytes ∙ ap (λ k. drop k bytes) (omega arith) in (
      v,
      (
        omega (arith, l, ap length ei, ap length e, length-drop 1 bytes),
        same,
        inl (e ∙ ap (λ t. 34 ∷ t) (sym ei ∙ closes.0 ∙ ap (λ t. doubled v ++ 34 ∷ t) rest), subst (λ t. ¬ (StartsWith 34 t)) rest closes.1),
      ),
    )
