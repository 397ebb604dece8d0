-- Tokens of width 2: an offset is twice a number of tokens. All this follows from the lemmas on
-- fronts of any widths.
use Rattle.std.proofs.Common.{◌≡◌, ℕ, ◌*◌, ◌/◌, ◌%◌, ◌≤◌, ◌<◌, ◌≢◌, inl, inr, leb, Bool, true, false, List, length, take, drop, refl, ap, sym, ◌∙◌, arith, length-take, Ok, Err, subst}
use Rattle.std.specs.Prelude.{is_some}
use Rattle.std.proofs.lemmas.Bool.Decides.{leb_tells}
use Rattle.std.proofs.lemmas.List.{take-map, drop-map, length-map}
use Rattle.winnow_stream.specs.declared.needed.Needed.TheVariants.{Unknown}
use Rattle.winnow_stream.specs.Source.{width}
use Rattle.winnow_stream.specs.Front.{is_offset, count_to, front, back}
use Rattle.winnow_stream.specs.Shortage.{offset_at}
use Rattle.winnow_stream.specs.Longer.{count_to-le}
use Rattle.winnow_stream.proofs.lemmas.FrontLemmas.{front_count-place, width-front, front-whole}
use Rattle.winnow_stream.proofs.lemmas.ShortageLemmas.{offset_at-fits, offset_at-silent}
use Rattle.law_streams.specs.PairSource.{pair_source, width-pair_source, HasPositiveWidths-pair_source}

-- a boolean that is not `true` is `false`
not_true : (b : Bool) → (b ≡ true → ⊥) → b ≡ false
not_true true h = absurd (h refl)
not_true false h = refl

module _ {T : Type 0} (xs : List T) where
  -- the source has as many tokens as the list has code units
  pub length-pair_source : length (pair_source xs) ≡ length xs
  length-pair_source = length-map xs (λ x. (x, 2))

  -- k tokens have the width 2 * k
  pub width-take_pairs : (k : ℕ) → k ≤ length xs → width (take k (pair_source xs)) ≡ 2 * k
  width-take_pairs k h =
      rw (take-map {Y = T × ℕ} (λ x. (x, 2)) k xs) (omega (arith, width-pair_source (take k xs), length-take k xs))

  -- 2 * k is an offset, if there are k tokens
  pub is_offset-double : (k : ℕ) → k ≤ length xs → is_offset (pair_source xs) (2 * k) ≡ true
  is_offset-double k h =
      subst (λ n. is_offset (pair_source xs) n ≡ true) (width-take_pairs k h) (ap is_some (front_count-place (pair_source xs) k (HasPositiveWidths-pair_source xs) (omega (arith, length-pair_source))))

  -- an offset is twice the number of tokens before it
  pub double-from_is_offset : (n : ℕ) → is_offset (pair_source xs) n ≡ true
      → (2 * count_to (pair_source xs) n ≡ n) × (count_to (pair_source xs) n ≤ length xs)
  double-from_is_offset n h =
      let k : ℕ = count_to (pair_source xs) n in
      let within : k ≤ length xs = omega (arith, count_to-le (pair_source xs) n, length-pair_source) in
      (sym (width-take_pairs k within) ∙ width-front (pair_source xs) n h, within)

  -- half of an offset is at most the number of code units
  pub half-within : (n : ℕ) → is_offset (pair_source xs) n ≡ true → n / 2 ≤ length xs
  half-within n h = let d = double-from_is_offset n h in omega (arith, d.0, d.1)

  -- half of an offset is the number of tokens before it
  pub half-count : (n : ℕ) → is_offset (pair_source xs) n ≡ true
      → n / 2 ≡ count_to (pair_source xs) n
  half-count n h = let d = double-from_is_offset n h in omega (arith, d.0)

  -- an even number is an offset exactly if there are half as many code units
  pub is_offset-even : (n : ℕ) → n % 2 ≡ 0 → is_offset (pair_source xs) n ≡ leb (n / 2) (length xs)
  is_offset-even n even =
      let twice : 2 * (n / 2) ≡ n = omega arith in
      elim (leb_tells (n / 2) (length xs)) [
        | inl h ↦ subst (λ m. is_offset (pair_source xs) m ≡ true) twice (is_offset-double (n / 2) h.1) ∙ sym h.0
        | inr h ↦ not_true (is_offset (pair_source xs) n) (λ t. absurd (omega (arith, half-within n t, h.1))) ∙ sym h.0
      ]

  -- an odd number is never an offset
  pub is_offset-odd : (n : ℕ) → n % 2 ≢ 0 → is_offset (pair_source xs) n ≡ false
  is_offset-odd n odd = not_true (is_offset (pair_source xs) n) (λ t. let d = double-from_is_offset n t in odd (omega (arith, d.0)))

  -- the front of an offset is half as many code units
  pub pair_source-take : (n : ℕ) → is_offset (pair_source xs) n ≡ true
      → pair_source (take (n / 2) xs) ≡ front (pair_source xs) n
  pair_source-take n h = rw (half-count n h) (sym (take-map (λ x. (x, 2)) (count_to (pair_source xs) n) xs))

  -- the rest after an offset is the rest after half as many code units
  pub pair_source-drop : (n : ℕ) → is_offset (pair_source xs) n ≡ true
      → pair_source (drop (n / 2) xs) ≡ back (pair_source xs) n
  pair_source-drop n h = rw (half-count n h) (sym (drop-map (λ x. (x, 2)) (count_to (pair_source xs) n) xs))

  -- the source is the front of its whole width
  pub pair_source-whole : pair_source xs ≡ front (pair_source xs) (width (pair_source xs))
  pair_source-whole = sym (front-whole (pair_source xs) (HasPositiveWidths-pair_source xs))

  -- the offset after n tokens is 2 * n, if there are n
  pub offset_at-pairs_fit : (n : ℕ) → n ≤ length xs
      → Ok (2 * n) ≡ offset_at false (pair_source xs) n
  offset_at-pairs_fit n h = offset_at-fits (pair_source xs) n false (2 * n) (omega (arith, length-pair_source)) (sym (width-take_pairs n h))

  -- where there are fewer than n tokens, the shortage is unknown
  pub offset_at-pairs_short : (n : ℕ) → length xs < n
      → Err Unknown ≡ offset_at false (pair_source xs) n
  offset_at-pairs_short n h = offset_at-silent (pair_source xs) n (omega (arith, length-pair_source))

pub ruleset pair_steps = (length-pair_source, width-pair_source, half-within, is_offset-even, is_offset-odd, pair_source-take, pair_source-drop, pair_source-whole, offset_at-pairs_fit, offset_at-pairs_short)
