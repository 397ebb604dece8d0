-- A slice of tokens as a source: the lemmas on units, for references to the elements.
use Rattle.std.proofs.Common.{◌≡◌, ℕ, zero, suc, ◌+◌, ◌*◌, ◌-◌, ◌≤◌, leb, true, List, [], ◌∷◌, length, take, drop, refl, ap, sym, ◌∙◌, arith, IsTrue, map, take_all, length-drop}
use Rattle.std.specs.Prelude.{Ok, Err, Some, min}
use Rattle.std.specs.Borrow.{Bor, RattleType}
use Rattle.std.specs.Mem.{type_size}
use Rattle.std.specs.Int.NonZero.{non_zero_usize_get}
use Rattle.std.specs.declared.num.NonZeroUsize.{NonZeroUsize}
use Rattle.winnow_stream.specs.declared.needed.Needed.TheVariants.{Size}
use Rattle.winnow_stream.specs.Source.{units, width, IsEndOf, first_token}
use Rattle.winnow_stream.specs.Front.{is_offset, front, back}
use Rattle.winnow_stream.specs.Shortage.{offset_at}
use Rattle.winnow_stream.specs.Units.{width-units}
use Rattle.winnow_stream.proofs.lemmas.FrontLemmas.{width-end}
use Rattle.winnow_stream.proofs.lemmas.UnitLemmas.{length-units, is_offset-units, le-from_is_offset, units-take, count_to-units, front-units, offset_at-units_short, offset_at-units_fits}
use Rattle.std.proofs.lemmas.Bool.Decides.{nat_tests}
use Rattle.std.proofs.lemmas.List.{drop-map, drop_all}
use Rattle.winnow_stream_window.specs.Contents.{slice_before}
use Rattle.winnow_stream_window.proofs.lemmas.WindowLemmas.{take-front}
use Rattle.winnow_stream_window.proofs.lemmas.WindowLemmas.{le-from_front as le-from_units}
use Rattle.winnow_views.specs.TokenSources.{references, tokens_of, length-references, width-tokens_of}

-- the references to a part of the list are those of the whole at its places
pub references-take : {T : Type 0} (size : ℕ) (at : ℕ × ℕ) (n : ℕ) (xs : List T)
    → references size at (take n xs) ≡ take n (references size at xs)
references-take size at zero xs = refl
references-take size at (suc n) [] = refl
references-take size at (suc n) (x ∷ xs) = ap (λ r. record { ref_ptr = at; now = x } ∷ r) (references-take size (at.0, size + at.1) n xs)

-- the references to what follows the first n elements are those of the whole at its places
pub references-drop : {T : Type 0} (size : ℕ) (at : ℕ × ℕ) (n : ℕ) (xs : List T)
    → references size (at.0, n * size + at.1) (drop n xs) ≡ drop n (references size at xs)
references-drop size at zero xs = ap (λ o. references size (at.0, o) xs) (omega arith)
references-drop size at (suc n) [] = refl
references-drop size at (suc n) (x ∷ xs) =
    ap (λ o. references size (at.0, o) (drop n xs)) (omega arith) ∙ references-drop size (at.0, size + at.1) n xs

-- the elements that the references point to
abbrev values : {T : Type 0} → List (Bor T) → List T
values xs = map (λ x. x.now) xs

-- the references to a list point to its elements
values-references : {T : Type 0} (size : ℕ) (at : ℕ × ℕ) (xs : List T)
    → values (references size at xs) ≡ xs
values-references size at [] = refl
values-references size at (x ∷ xs) = ap (λ ys. x ∷ ys) (values-references size (at.0, size + at.1) xs)

-- the tokens after the first n elements
pub tokens_of-drop : {T : Type 0} (size : ℕ) (at : ℕ × ℕ) (n : ℕ) (xs : List T)
    → units (references size (at.0, n * size + at.1) (drop n xs))
    ≡ drop n (units (references size at xs))
tokens_of-drop size at n xs = ap units (references-drop size at n xs) ∙ sym (drop-map (λ x. (x, 1)) n (references size at xs))

module _ {T : Type 0} (size : ℕ) (at : ℕ × ℕ) (xs : List T) where
  -- there is one token for each element, of width 1
  pub length-tokens_of : length (units (references size at xs)) ≡ length xs
  length-tokens_of = length-units (references size at xs) ∙ length-references size at xs

  pub width-references : width (units (references size at xs)) ≡ length xs
  width-references = width-units (references size at xs) ∙ length-references size at xs

  -- the offsets are the numbers up to the length
  pub is_offset-tokens_of : (n : ℕ)
      → is_offset (units (references size at xs)) n ≡ leb n (length xs)
  is_offset-tokens_of n = is_offset-units (references size at xs) n ∙ ap (leb n) (length-references size at xs)

  -- an offset is at most the length
  pub le-from_offset : (n : ℕ) → IsTrue (is_offset (units (references size at xs)) n)
      → n ≤ length xs
  le-from_offset n h = let l = le-from_is_offset (references size at xs) n h in omega (arith, l, length-references size at xs)

  -- the first n elements are the front of width n
  pub front-tokens_of : (n : ℕ) → n ≤ length xs
      → units (references size at (take n xs)) ≡ front (units (references size at xs)) n
  front-tokens_of n h = ap units (references-take size at n xs) ∙ units-take (references size at xs) n (omega (arith, h, length-references size at xs))

  -- the answer of `offset_at` if tokens are missing, and if none is
  pub offset_at-short : (n : ℕ) (m : NonZeroUsize) → non_zero_usize_get m ≡ n - length xs
      → Err (Size m) ≡ offset_at true (units (references size at xs)) n
  offset_at-short n m e = offset_at-units_short (references size at xs) n m (e ∙ ap (λ k. n - k) (sym (length-references size at xs)))

  pub offset_at-fits : (n : ℕ) → n - length xs ≡ 0
      → Ok n ≡ offset_at true (units (references size at xs)) n
  offset_at-fits n h = offset_at-units_fits (references size at xs) n (omega (arith, h, length-references size at xs))

  -- the part of the slice from element n on is what follows n tokens
  pub part-tokens_of : (n : ℕ) → n ≤ length xs
      → units (references size (at.0, n * size + at.1) (take (length xs - n) (drop n xs)))
      ≡ drop n (units (references size at xs))
  part-tokens_of n h =
      ap (λ ys. units (references size (at.0, n * size + at.1) ys)) (take_all (length xs - n) (drop n xs) (omega (arith, length-drop n xs))) ∙ tokens_of-drop size at n xs

  -- the whole is its own front, and nothing follows it
  pub front_all-tokens_of : units (references size at xs)
      ≡ front (units (references size at xs)) (width (units (references size at xs)))
  front_all-tokens_of = front-units (references size at xs)

  pub drop_all-tokens_of : drop (length xs) (units (references size at xs)) ≡ []
  drop_all-tokens_of = drop_all (length xs) (units (references size at xs)) (omega (arith, length-tokens_of))

  -- taking the first token, or all tokens, moves the place on by their width
  pub place-first : (p q : ℕ) → q ≡ p + min 1 (length xs)
      → Some q ≡ Some (p + width (take 1 (units (references size at xs))))
  place-first p q e = ap Some (e ∙ ap (λ n. p + n) (width-first xs at))
    where
      width-first : (ys : List T) (a : ℕ × ℕ)
          → min 1 (length ys) ≡ width (take 1 (units (references size a ys)))
      width-first [] a = refl
      width-first (y ∷ ys) a = omega arith

  pub place-all : (p q : ℕ) → q ≡ p + length xs
      → Some q ≡ Some (p + width (units (references size at xs)))
  place-all p q e = ap Some (e ∙ ap (λ n. p + n) (sym width-references))

  -- what follows a front of width n is the list without n tokens
  pub back-units : (n : ℕ) → IsTrue (is_offset (units (references size at xs)) n)
      → drop n (units (references size at xs)) ≡ back (units (references size at xs)) n
  back-units n h = ap (λ k. drop k (units (references size at xs))) (sym (count_to-units (references size at xs) n (le-from_is_offset (references size at xs) n h)))

-- the offset after the first token is valid
pub is_offset-first : {T : Type 0} (size : ℕ) (at : ℕ × ℕ) (xs : List T) (x : Bor T)
    → Some x ≡ first_token (units (references size at xs))
    → is_offset (units (references size at xs)) 1 ≡ true
is_offset-first size at [] x h = absurd (cc)
is_offset-first size at (y ∷ ys) x h = is_offset-tokens_of size at (y ∷ ys) 1 ∙ grind (arith, nat_tests)

module _ (R : RattleType) where
  -- an end of a slice is no longer than the slice
  pub le-from_end : (s whole : Bor (List R.Denot)) → IsEndOf (tokens_of R s) (tokens_of R whole)
      → length s.now ≤ length whole.now
  le-from_end s whole h = let w = width-end (tokens_of R s) (tokens_of R whole) h in omega (arith, w, width-tokens_of R s, width-tokens_of R whole)

  -- a front of a slice is no longer than the slice, and is as many of its elements as it has
  module _ (s whole : Bor (List R.Denot)) (n : ℕ) (h : IsTrue (is_offset (tokens_of R whole) n)) (e : tokens_of R s ≡ front (tokens_of R whole) n) where
    -- the references to the elements of the front, and to those of the whole
    abbrev part : List (Bor R.Denot)
    part = references (type_size R) s.ref_ptr s.now

    abbrev all : List (Bor R.Denot)
    all = references (type_size R) whole.ref_ptr whole.now

    -- there is one reference for each element of the front
    count : length part ≡ length s.now
    count = length-references (type_size R) s.ref_ptr s.now

    -- the front is no longer
    pub le-from_front : length s.now ≤ length whole.now
    le-from_front = let l = le-from_units part all n h e in omega (arith, l, count, length-references (type_size R) whole.ref_ptr whole.now)

    -- the front has the same references
    same : references (type_size R) whole.ref_ptr (take (length s.now) whole.now)
        ≡ references (type_size R) s.ref_ptr s.now
    same = references-take (type_size R) whole.ref_ptr (length s.now) whole.now ∙ ap (λ k. take k all) (sym count) ∙ take-front part all n h e

    -- the tokens of the front, as a part of the whole, are its own
    pub tokens_of-before : tokens_of R (slice_before (length s.now) whole) ≡ tokens_of R s
    tokens_of-before = ap units same

    -- the elements of the front are the first of the whole
    pub now-before : take (length s.now) whole.now ≡ s.now
    now-before = sym (values-references (type_size R) whole.ref_ptr (take (length s.now) whole.now)) ∙ ap values same ∙ values-references (type_size R) s.ref_ptr s.now

-- the rules for the calls of slices of tokens
pub ruleset token_steps = (tokens_of-drop, length-tokens_of, width-references, is_offset-tokens_of, le-from_offset, front-tokens_of, offset_at-short, offset_at-fits, part-tokens_of, front_all-tokens_of, drop_all-tokens_of, back-units)
