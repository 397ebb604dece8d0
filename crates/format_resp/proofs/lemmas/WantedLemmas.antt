-- How many replies open arrays want, in an array of numbers, the last of them first.
use Rattle.std.proofs.Common.{◌≡◌, ℕ, zero, suc, ◌≤◌, ◌<◌, List, ◌∷◌, length, get_or, set, Some, ap, sym, ◌∙◌, refl, arith}
use Rattle.std.proofs.lemmas.List.{get_or-set_same, get_or-set_other}
use Rattle.format_resp.specs.Wanted.{last_first, with_next}
use Rattle.format_resp.proofs.lemmas.AheadLemmas.{conses}

-- a number further on does not count
last-set : (n m : ℕ) (xs : List ℕ) (v : ℕ) → n ≤ m
    → last_first n (set xs m v) ≡ last_first n xs
last-set zero m xs v below = refl
last-set (suc n) m xs v below =
    conses (get_or (set xs m v) n 0) (get_or xs n 0) (last_first n (set xs m v)) (last_first n xs)
    (get_or-set_other xs m n v 0 (λ e. omega (arith, below, e))) (last-set n m xs v (omega (arith, below)))

-- a number more is the first
pub last-more : (n m : ℕ) (xs : List ℕ) (v : ℕ) → n < length xs → m ≡ suc n
    → last_first m (set xs n v) ≡ v ∷ last_first n xs
last-more n m xs v within e =
    ap (λ k. last_first k (set xs n v)) e
    ∙ conses (get_or (set xs n v) n 0) v (last_first n (set xs n v)) (last_first n xs)
    (get_or-set_same xs n v 0 within) (last-set n n xs v (omega arith))

-- a number above 0 is one less for the next
less-first : (w v : ℕ) (ns : List ℕ) → w ≡ suc v → with_next (w ∷ ns) ≡ Some (v ∷ ns)
less-first w v ns e = ap (λ x. with_next (x ∷ ns)) e

-- the last number is one less
pub last-less : (n m : ℕ) (xs : List ℕ) (v : ℕ) → n ≡ suc m → m < length xs
    → get_or xs m 0 ≡ suc v → with_next (last_first n xs) ≡ Some (last_first n (set xs m v))
last-less n m xs v e within some =
    ap (λ k. with_next (last_first k xs)) e ∙ less-first (get_or xs m 0) v (last_first m xs) some
    ∙ ap Some (sym (last-more m n xs v within e))

-- a last 0 is dropped
pub last-zero : (n m : ℕ) (xs : List ℕ) → n ≡ suc m → get_or xs m 0 ≡ 0
    → with_next (last_first m xs) ≡ with_next (last_first n xs)
last-zero n m xs e nought =
    ap (λ w. with_next (w ∷ last_first m xs)) (sym nought) ∙ ap (λ k. with_next (last_first k xs)) (sym e)

-- there are as many as are counted
pub last-length : (n : ℕ) (xs : List ℕ) → length (last_first n xs) ≡ n
last-length zero xs = refl
last-length (suc n) xs = let more = last-length n xs in omega (arith, more)
