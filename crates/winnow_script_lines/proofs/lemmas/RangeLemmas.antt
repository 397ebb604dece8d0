-- What words mean as ranges.
use Rattle.std.proofs.Common.{◌≡◌, ◌+◌, ◌<◌, ◌≤◌, ℕ, zero, suc, List, [], ◌∷◌, ◌++◌, codes, length, length-append, take, drop, get_or, Some, None, inl, inr, refl, sym, ap, ◌∙◌, ◌^◌, append_assoc, arith}
use Rattle.std.specs.Borrow.{Bor}
use Rattle.std.specs.Char.{IsScalar}
use Rattle.std.specs.List.{AllZip}
use Rattle.std.specs.Str.Parse.{AllDigits, IsNumeral, digits_value}
use Rattle.std.specs.Str.Pattern.{FindsText, LacksTextAt}
use Rattle.std.proofs.lemmas.Grind.{common_steps}
use Rattle.std.proofs.lemmas.Str.Pattern.{split_text_parts}
use Rattle.winnow_script_lines.specs.Readings.{DenotesNothing}
use Rattle.winnow_script_lines.specs.Words.{DenotesChar, DenotesRange, DenotesRanges}

-- a word that is read as a character means it, since a character's number fits
pub DenotesChar-read : (word : List ℕ) (c : ℕ)
    → (IsNumeral 10 word × IsScalar (digits_value 10 word)) × (c ≡ digits_value 10 word)
    → DenotesChar word c
DenotesChar-read word c read =
    let scalar : IsScalar c = rw read.1 read.0.1 in
    let fits : c < 2 ^ 64 = grind (arith, common_steps, scalar) in
    ((read.0.0, sym read.1, fits), scalar)

-- two dots after digits are the first two dots in the word
pub dots_first : (low high found_low found_high : List ℕ) → AllDigits 10 low
    → low ++ 46 ∷ 46 ∷ high ≡ found_low ++ 46 ∷ 46 ∷ found_high
    → ((i : ℕ) → i < length found_low → LacksTextAt (46 ∷ 46 ∷ []) (low ++ 46 ∷ 46 ∷ high) i)
    → (found_low ≡ low) × (found_high ≡ high)
dots_first [] high [] found_high digits same first = (refl, sym (ap (drop 2) same))
dots_first [] high (y ∷ found_low) found_high digits same first = absurd (first 0 (omega arith) high refl)
dots_first (x ∷ low) high [] found_high digits same first =
    let dot : x ≡ 46 = ap (λ l. get_or l 0 0) same in
    absurd (omega (arith, rw dot at digits.0))
dots_first (x ∷ low) high (y ∷ found_low) found_high digits same first =
    let rest = dots_first low high found_low found_high digits.1 (ap (drop 1) same) (λ i lt. first (suc i) (omega (arith, lt))) in
    let head : y ≡ x = sym (ap (λ l. get_or l 0 0) same) in
    (rw (head, rest.0) refl, rest.1)

-- if the first two dots are between low and high, these are the parts of each range that the word
-- means
module _ (word : List ℕ) (low high : Bor (List ℕ)) (split : (i : ℕ) × (j : ℕ) × FindsText (codes "..") word (Some (i, j)) × (low.now ≡ take i word) × (high.now ≡ drop j word) × (i ≤ j) × (length low.now ≡ i) × (length high.now + j ≡ length word)) where
  -- low and high are the two parts of a range that the word means
  range-parts : (range : ℕ × ℕ) (told : DenotesRange word range)
      → (low.now ≡ told.0) × (high.now ≡ told.1)
  range-parts range told =
      let whole = split_text_parts (codes "..") word (Some (low, high)) split in
      let same = told.2 ∙ append_assoc told.0 (codes "..") told.1 in
      dots_first told.0 told.1 low.now high.now told.3.0.0.1 (sym same ∙ whole)
      (λ i lt. rw same at (split.2.0 i (omega (arith, lt, split.6))))

  -- the word means no range if one of the parts means no character
  pub DenotesRange-low : ¬ (IsNumeral 10 low.now × IsScalar (digits_value 10 low.now))
      → DenotesNothing DenotesRange word
  DenotesRange-low none range told =
      none (rw (range-parts range told).0 (told.3.0.0, rw told.3.0.1 told.3.1))

  pub DenotesRange-high : ¬ (IsNumeral 10 high.now × IsScalar (digits_value 10 high.now))
      → DenotesNothing DenotesRange word
  DenotesRange-high none range told =
      none (rw (range-parts range told).1 (told.4.0.0, rw told.4.0.1 told.4.1))

-- a word without two dots means no range
pub DenotesRange-dotless : (word : List ℕ) → FindsText (codes "..") word None
    → DenotesNothing DenotesRange word
DenotesRange-dotless word none range told = split_text_parts (codes "..") word None none told.0 told.1 (told.2 ∙ append_assoc told.0 (codes "..") told.1)

-- parts mean no ranges if one of them means no range
pub DenotesRanges-nothing : (parts : List (List ℕ)) (k : ℕ) (d : List ℕ) → k < length parts
    → DenotesNothing DenotesRange (get_or parts k d) → (ranges : List (ℕ × ℕ))
    → ¬ (AllZip DenotesRange parts ranges)
DenotesRanges-nothing [] k d lt none ranges told = omega (arith, lt)
DenotesRanges-nothing (part ∷ parts) k d lt none [] told = told
DenotesRanges-nothing (part ∷ parts) zero d lt none (range ∷ ranges) told = none range told.0
DenotesRanges-nothing (part ∷ parts) (suc k) d lt none (range ∷ ranges) told =
    DenotesRanges-nothing parts k d (omega (arith, lt)) none ranges told.1

-- the empty word means no range, since it has no dots
DenotesRange-filled : DenotesNothing DenotesRange []
DenotesRange-filled range told =
    let gone = ap length (told.2 ∙ append_assoc told.0 (codes "..") told.1) in
    omega (arith, gone, length-append told.0 (46 ∷ 46 ∷ told.1))

-- the empty word means no ranges
pub DenotesRanges-filled : (ranges : List (ℕ × ℕ)) → ¬ (DenotesRanges [] ranges)
DenotesRanges-filled ranges told =
    elim told [
      | inl dash ↦ omega (arith, ap length dash.0)
      | inr parts ↦ DenotesRanges-nothing ([] ∷ []) 0 [] (omega arith) DenotesRange-filled ranges parts
    ]
