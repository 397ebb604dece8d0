-- Fronts of bytes: their length, what they leave, and the test that the code has for them.
use Rattle.std.proofs.Common.{◌≡◌, ℕ, zero, suc, slice_index_or, ◌≤◌, ◌<◌, ◌==◌, true, false, ◌&&◌, List, [], ◌∷◌, ◌++◌, length, take, drop, refl, ap, ◌∙◌, arith}
use Rattle.std.proofs.Math.Seq.{drop-nil}
use Rattle.std.specs.Prelude.{nat_eq}
use Rattle.std.specs.Cmp.Lexicographic.{pointwise}
use Rattle.std.proofs.lemmas.Bool.{and_parts, false≢true, false_from_ne_true}
use Rattle.std.proofs.lemmas.Bool.Decides.{nat_tests}
use Rattle.winnow_match.specs.Comparison.{is_prefix, IsPrefixOf}

-- the test that the code has, `p == &xs[..p.len()]`, is `is_prefix`
pub front-test : (p xs : List ℕ) → pointwise nat_eq p (take (length p) xs) ≡ is_prefix p xs
front-test [] xs = refl
front-test (x ∷ p) [] = refl
front-test (x ∷ p) (y ∷ xs) = ap (λ b. (x == y) && b) (front-test p xs)

-- a front is no longer than the whole
pub length-front : (p xs : List ℕ) → is_prefix p xs ≡ true → length p ≤ length xs
length-front [] xs h = omega arith
length-front (x ∷ p) [] h = absurd (false≢true h)
length-front (x ∷ p) (y ∷ xs) h = let l = length-front p xs (and_parts (x == y) (is_prefix p xs) h).1 in omega (arith, l)

-- a list that is longer is no front
pub is_prefix-long : (p xs : List ℕ) → length xs < length p → is_prefix p xs ≡ false
is_prefix-long p xs l = false_from_ne_true (is_prefix p xs) (λ h. let m = length-front p xs h in omega (arith, l, m))

-- a front as long as the whole is the whole
pub is_prefix-whole : (p xs : List ℕ) → is_prefix p xs ≡ true → length xs ≤ length p
    → is_prefix xs p ≡ true
is_prefix-whole [] [] h l = refl
is_prefix-whole [] (y ∷ xs) h l = absurd (omega (arith, l))
is_prefix-whole (x ∷ p) [] h l = refl
is_prefix-whole (x ∷ p) (y ∷ xs) h l =
    let parts = and_parts (x == y) (is_prefix p xs) h in
    let e = is_prefix-whole p xs parts.1 (omega (arith, l)) in
    let s : (y == x) ≡ true = grind (arith, nat_tests, parts.0) in
    rw (s, e) refl

-- a list is a front of itself and more
pub is_prefix-append : (p rest : List ℕ) → is_prefix p (p ++ rest) ≡ true
is_prefix-append [] rest = refl
is_prefix-append (x ∷ p) rest =
    let same : (x == x) ≡ true = grind (arith, nat_tests) in
    rw (same, is_prefix-append p rest) refl

-- a list is its front and what follows it
pub front_rest : (p xs : List ℕ) → is_prefix p xs ≡ true → xs ≡ p ++ drop (length p) xs
front_rest [] xs h = refl
front_rest (x ∷ p) [] h = absurd (false≢true h)
front_rest (x ∷ p) (y ∷ xs) h =
    let parts = and_parts (x == y) (is_prefix p xs) h in
    let e : y ≡ x = grind (arith, nat_tests, parts.0) in
    ap (λ z. z ∷ xs) e ∙ ap (λ zs. x ∷ zs) (front_rest p xs parts.1)

-- `is_prefix` and `IsPrefixOf` agree, in both directions
pub IsPrefixOf-is_prefix : (p xs : List ℕ) → is_prefix p xs ≡ true → IsPrefixOf p xs
IsPrefixOf-is_prefix p xs h = (drop (length p) xs, front_rest p xs h)

pub is_prefix-IsPrefixOf : (p xs : List ℕ) → IsPrefixOf p xs → is_prefix p xs ≡ true
is_prefix-IsPrefixOf p xs f = ap (is_prefix p) f.1 ∙ is_prefix-append p f.0

-- where the fact is refuted, the test fails
pub no_front : (p xs : List ℕ) → ¬ IsPrefixOf p xs → is_prefix p xs ≡ false
no_front p xs n = false_from_ne_true (is_prefix p xs) (λ h. n (IsPrefixOf-is_prefix p xs h))

-- whether p is a front does not depend on what follows a list that is at least as long as p
pub is_prefix-more : (p xs more : List ℕ) → length p ≤ length xs
    → is_prefix p (xs ++ more) ≡ is_prefix p xs
is_prefix-more [] xs more l = refl
is_prefix-more (x ∷ p) [] more l = absurd (omega (arith, l))
is_prefix-more (x ∷ p) (y ∷ xs) more l = ap (λ b. (x == y) && b) (is_prefix-more p xs more (omega (arith, l)))

-- a front of a front is a front
pub is_prefix-shorter : (p q xs : List ℕ) → is_prefix (p ++ q) xs ≡ true → is_prefix p xs ≡ true
is_prefix-shorter [] q xs h = refl
is_prefix-shorter (x ∷ p) q [] h = absurd (false≢true h)
is_prefix-shorter (x ∷ p) q (y ∷ xs) h =
    let parts = and_parts (x == y) (is_prefix (p ++ q) xs) h in
    rw (parts.0, is_prefix-shorter p q xs parts.1) refl

-- of two fronts of one list, the shorter is a front of the other
pub is_prefix-both : (p q xs : List ℕ) → is_prefix p xs ≡ true → is_prefix q xs ≡ true
    → length q ≤ length p → is_prefix q p ≡ true
is_prefix-both p [] xs h g l = refl
is_prefix-both [] (z ∷ q) xs h g l = absurd (omega (arith, l))
is_prefix-both (x ∷ p) (z ∷ q) [] h g l = absurd (false≢true h)
is_prefix-both (x ∷ p) (z ∷ q) (y ∷ xs) h g l =
    let first = and_parts (x == y) (is_prefix p xs) h in
    let second = and_parts (z == y) (is_prefix q xs) g in
    let same : (z == x) ≡ true = grind (arith, nat_tests, first.0, second.0) in
    rw (same, is_prefix-both p q xs first.1 second.1 (omega (arith, l))) refl

-- the test goes on after an element that both have
pub is_prefix-next : (p xs : List ℕ) (i : ℕ) → i < length p → length p ≤ length xs
    → slice_index_or p i 0 ≡ slice_index_or xs i 0
    → is_prefix (drop (suc i) p) (drop (suc i) xs) ≡ is_prefix (drop i p) (drop i xs)
is_prefix-next [] xs i l m e = absurd (omega (arith, l))
is_prefix-next (x ∷ p) [] i l m e = absurd (omega (arith, m))
is_prefix-next (x ∷ p) (y ∷ xs) zero l m e =
    let same : (x == y) ≡ true = grind (arith, nat_tests, e) in rw same refl
is_prefix-next (x ∷ p) (y ∷ xs) (suc i) l m e = is_prefix-next p xs i (omega (arith, l)) (omega (arith, m)) e

-- and it fails at an element in which they differ
pub is_prefix-differs : (p xs : List ℕ) (i : ℕ) → i < length p → length p ≤ length xs
    → (slice_index_or p i 0 ≡ slice_index_or xs i 0 → ⊥) → is_prefix (drop i p) (drop i xs) ≡ false
is_prefix-differs [] xs i l m n = absurd (omega (arith, l))
is_prefix-differs (x ∷ p) [] i l m n = absurd (omega (arith, m))
is_prefix-differs (x ∷ p) (y ∷ xs) zero l m n =
    let other : (x == y) ≡ false = grind (arith, nat_tests, n) in rw other refl
is_prefix-differs (x ∷ p) (y ∷ xs) (suc i) l m n = is_prefix-differs p xs i (omega (arith, l)) (omega (arith, m)) n

-- after all elements it has held
pub is_prefix-end : (p xs : List ℕ) (i : ℕ) → length p ≤ i → is_prefix (drop i p) xs ≡ true
is_prefix-end [] xs i l = rw (drop-nil {A = ℕ} i) refl
is_prefix-end (x ∷ p) xs zero l = absurd (omega (arith, l))
is_prefix-end (x ∷ p) xs (suc i) l = is_prefix-end p xs i (omega (arith, l))

-- the rules for the test that the code has
pub ruleset front_tests = (front-test, is_prefix-long)
