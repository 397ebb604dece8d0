-- A needle that is longer than the bytes is not found there.
use Rattle.std.proofs.Common.{◌≡◌, ℕ, ◌+◌, ◌<◌, false, List, [], ◌∷◌, ◌++◌, length, None, refl, arith}
use Rattle.std.specs.List.{list_any}
use Rattle.winnow_match.specs.Search.{is_empty, needle_at, first_hit, hit}
use Rattle.winnow_match.proofs.lemmas.ByteFrontLemmas.{is_prefix-long}

-- a list with a length has an element
filled : (n : List ℕ) → 0 < length n → is_empty n ≡ false
filled [] l = absurd (omega (arith, l))
filled (x ∷ n) l = refl

module _ (n : List ℕ) (ys : List (List ℕ)) where
  -- it stands nowhere
  needle_at-long : (xs : List (List ℕ)) (bs : List ℕ) → length bs < length n
      → needle_at (xs ++ n ∷ ys) bs ≡ needle_at (xs ++ ys) bs
  needle_at-long [] bs l = rw (is_prefix-long n bs l) refl
  needle_at-long (x ∷ xs) bs l = rw (needle_at-long xs bs l) refl

  first_hit-long : (xs : List (List ℕ)) (at : ℕ) (bs : List ℕ) → length bs < length n
      → first_hit (xs ++ n ∷ ys) at bs ≡ first_hit (xs ++ ys) at bs
  first_hit-long xs at [] l = refl
  first_hit-long xs at (y ∷ bs) l = rw (needle_at-long xs (y ∷ bs) l, first_hit-long xs (at + 1) bs (omega (arith, l))) refl

  -- it has a byte
  empty-long : (bs : List ℕ) → length bs < length n → is_empty n ≡ false
  empty-long bs l = filled n (omega (arith, l))

  any-long : (xs : List (List ℕ)) → is_empty n ≡ false
      → list_any is_empty (xs ++ n ∷ ys) ≡ list_any is_empty (xs ++ ys)
  any-long [] e = rw e refl
  any-long (x ∷ xs) e = rw (any-long xs e) refl

  -- so the others find what all of them find
  pub hit-long : (xs : List (List ℕ)) (bs : List ℕ) → length bs < length n
      → hit (xs ++ n ∷ ys) bs ≡ hit (xs ++ ys) bs
  hit-long xs bs l = rw (any-long xs (empty-long bs l), first_hit-long xs 0 bs l) refl

-- no needle is found nowhere
first_hit-none : (at : ℕ) (bs : List ℕ) → first_hit [] at bs ≡ None
first_hit-none at [] = refl
first_hit-none at (y ∷ bs) = first_hit-none (at + 1) bs

pub hit-none : (bs : List ℕ) → hit [] bs ≡ None
hit-none bs = first_hit-none 0 bs
