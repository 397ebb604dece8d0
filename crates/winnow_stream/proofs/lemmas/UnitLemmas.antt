-- Tokens of width 1: an offset is a number of tokens.
use Rattle.std.proofs.Common.{◌≡◌, ℕ, ◌-◌, ◌≤◌, ◌==◌, leb, Bool, true, false, List, [], ◌∷◌, length, take, drop, refl, ap, sym, ◌∙◌, arith, IsTrue, take_all, length-take}
use Rattle.std.proofs.lemmas.Bool.Decides.{nat_tests}
use Rattle.std.proofs.lemmas.List.{take-map, drop-map, length-map}
use Rattle.std.specs.Prelude.{Ok, Err, Some, None, cond, is_some}
use Rattle.std.specs.Int.NonZero.{non_zero_usize_get}
use Rattle.std.specs.declared.num.NonZeroUsize.{NonZeroUsize}
use Rattle.winnow_stream.specs.declared.needed.Needed.TheVariants.{Size}
use Rattle.winnow_stream.specs.Source.{Source, units, width}
use Rattle.winnow_stream.specs.Front.{is_offset, count_to, front, back}
use Rattle.winnow_stream.specs.Shortage.{offset_at}
use Rattle.winnow_stream.specs.Units.{width-units}
use Rattle.winnow_stream.proofs.lemmas.FrontLemmas.{is_offset-cons, count_to-cons, width-front}
use Rattle.winnow_stream.proofs.lemmas.ShortageLemmas.{offset_at-short, offset_at-fits}

-- there is one token for each element
pub length-units : {A : Type 0} (xs : List A) → length (units xs) ≡ length xs
length-units xs = length-map xs (λ x. (x, 1))

-- the test of `is_offset` at the end of a list
at-end : (b : Bool) → is_some {T = ℕ} (cond b (Some 0) None) ≡ b
at-end true = refl
at-end false = refl

-- the offsets of tokens of width 1 are the numbers up to the length
pub is_offset-units : {A : Type 0} (xs : List A) (n : ℕ)
    → is_offset (units xs) n ≡ leb n (length xs)
is_offset-units [] n = at-end (n == 0) ∙ grind (arith, nat_tests)
is_offset-units (x ∷ xs) n = let e = is_offset-units xs (n - 1) in is_offset-cons (x, 1) (units xs) n ∙ rw e (grind (arith, nat_tests))

-- the front of width n has n tokens
pub count_to-units : {A : Type 0} (xs : List A) (n : ℕ) → n ≤ length xs → count_to (units xs) n ≡ n
count_to-units [] n h = let e : n ≡ 0 = omega arith in rw e refl
count_to-units (x ∷ xs) n h =
    let b : is_offset (units (x ∷ xs)) n ≡ true = is_offset-units (x ∷ xs) n ∙ grind (arith, nat_tests) in
    count_to-cons (x, 1) (units xs) n b ∙ grind (arith, nat_tests, count_to-units xs (n - 1))

-- `is_offset-units` in both directions, as facts
pub le-from_is_offset : {A : Type 0} (xs : List A) (n : ℕ) → IsTrue (is_offset (units xs) n)
    → n ≤ length xs
le-from_is_offset xs n h = grind (arith, nat_tests, is_offset-units xs n)

pub is_offset-from_le : {A : Type 0} (xs : List A) (n : ℕ) → n ≤ length xs
    → IsTrue (is_offset (units xs) n)
is_offset-from_le xs n h = is_offset-units xs n ∙ grind (arith, nat_tests)

-- elements that are a front are as many as its width
pub length-front_units : {A : Type 0} (xs : List A) (r : Source A) (n : ℕ) → IsTrue (is_offset r n)
    → units xs ≡ front r n → length xs ≡ n
length-front_units xs r n o e = sym (width-units xs) ∙ ap width e ∙ width-front r n o

-- the elements of tokens
abbrev elements : {A : Type 0} → List (A × ℕ) → List A
elements [] = []
elements (x ∷ xs) = x.0 ∷ elements xs

-- the elements of a source are those that it was made of
elements-units : {A : Type 0} (xs : List A) → elements (units xs) ≡ xs
elements-units [] = refl
elements-units (x ∷ xs) = ap (λ ys. x ∷ ys) (elements-units xs)

-- equal tokens have equal elements
pub units-same : {A : Type 0} (xs ys : List A) → units xs ≡ units ys → xs ≡ ys
units-same xs ys e = sym (elements-units xs) ∙ ap elements e ∙ elements-units ys

-- the first n elements are the front of width n, and the others follow it
pub units-take : {A : Type 0} (xs : List A) (n : ℕ) → n ≤ length xs
    → units (take n xs) ≡ front (units xs) n
units-take xs n h = rw (count_to-units xs n h) (sym (take-map (λ x. (x, 1)) n xs))

pub units-drop : {A : Type 0} (xs : List A) (n : ℕ) → n ≤ length xs
    → units (drop n xs) ≡ back (units xs) n
units-drop xs n h = rw (count_to-units xs n h) (sym (drop-map (λ x. (x, 1)) n xs))

-- the whole is its own front
pub front-units : {A : Type 0} (xs : List A) → units xs ≡ front (units xs) (width (units xs))
front-units xs =
    rw (width-units xs) (rw (count_to-units xs (length xs) (omega arith)) (sym (take_all (length xs) (units xs) (omega (arith, length-units xs)))))

-- n tokens have the width n
pub width-take_units : {A : Type 0} (xs : List A) (n : ℕ) → n ≤ length xs
    → n ≡ width (take n (units xs))
width-take_units {A} xs n h =
    rw (take-map {Y = A × ℕ} (λ x. (x, 1)) n xs) (omega (arith, width-units (take n xs), length-take n xs))

-- the answers of `offset_at`, by the number of elements that are missing
pub offset_at-units_short : {A : Type 0} (xs : List A) (n : ℕ) (m : NonZeroUsize)
    → non_zero_usize_get m ≡ n - length xs → Err (Size m) ≡ offset_at true (units xs) n
offset_at-units_short xs n m e = offset_at-short (units xs) n m (e ∙ ap (λ k. n - k) (sym (length-units xs)))

pub offset_at-units_fits : {A : Type 0} (xs : List A) (n : ℕ) → n - length xs ≡ 0
    → Ok n ≡ offset_at true (units xs) n
offset_at-units_fits xs n h = offset_at-fits (units xs) n true n (omega (arith, length-units xs)) (width-take_units xs n (omega arith))

-- the rules for the calls of slices
pub ruleset units_steps = (length-units, width-units, is_offset-units, le-from_is_offset, units-take, units-drop, front-units, width-take_units, offset_at-units_short, offset_at-units_fits)
