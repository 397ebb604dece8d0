-- The search among the last places for a needle that stretches.
use Rattle.std.proofs.Common.{◌≡◌, ◌↔◌, ℕ, zero, suc, ◌+◌, ◌-◌, ◌≤◌, ◌<◌, ◌==◌, Bool, true, false, List, [], ◌∷◌, length, drop, Option, Some, None, refl, ap, sym, ◌∙◌, arith, inl, inr, length-drop}
use Rattle.std.specs.Prelude.{IsNone, IsTrue}
use Rattle.std.specs.List.{list_any}
use Rattle.std.specs.declared.ops.Range.{Range}
use Rattle.std.proofs.lemmas.Bool.{and_right, and_parts, and_from, eqb-true, eq-eqb, false≢true, cases_Bool, cases_lt, le-ltb}
use Rattle.std.proofs.lemmas.Option.{none-some}
use Rattle.winnow_match.specs.Comparison.{is_prefix}
use Rattle.winnow_match.specs.Search.{is_empty, needle_at, needle_of, hit, have_length, have_one_length}
use Rattle.winnow_match.specs.declared.needles.Stretch.{Stretch}
use Rattle.winnow_match.specs.Stretch.{stretches, mover_or, mover, first_mover, stretch_of, hit_is_definite, longest}
use Rattle.winnow_match.proofs.lemmas.StretchLemmas.{none-or-some}
use Rattle.winnow_match.proofs.lemmas.MoveLemmas.{first, fits, has-byte, inside, stretch-some, absent-before, stands-some, stretch-first, stretch-empty, definite-from, definite-parts}

-- no needle is longer than the longest
longest-bound : (ls : List (List ℕ)) (i : ℕ) → i < length ls → length (needle_of ls i) ≤ longest ls
longest-bound [] i l = absurd (omega (arith, l))
longest-bound (n ∷ ls) zero l = omega arith
longest-bound (n ∷ ls) (suc i) l = omega (arith, longest-bound ls i (omega (arith, l)))

-- the first needle does not stretch and the later ones give nothing, so there is none
pub mover_or-later : (a b : Bool) (o : Option ℕ) → b ≡ false → o ≡ None
    → mover_or a b o ≡ None
mover_or-later true b o h e = refl
mover_or-later false b o h e = rw (h, e) refl

-- no needle stretches in bytes that are at least as long as each of them
mover-long : (ls : List (List ℕ)) (xs : List ℕ) → longest ls ≤ length xs
    → mover ls xs ≡ None
mover-long [] xs l = refl
mover-long (n ∷ ls) xs l =
    mover_or-later (is_prefix n xs) (stretches n xs) (mover ls xs) (and_right (is_prefix xs n) _ (le-ltb (length xs) (length n) (omega (arith, l)))) (mover-long ls xs (omega (arith, l)))

-- the first place at which a needle stretches, with none that stands before, is the answer
first_mover-at : (ls : List (List ℕ)) (bytes : List ℕ) (base q i : ℕ) → q < length bytes
    → ((k : ℕ) → k < q → mover ls (drop k bytes) ≡ None)
    → ((k : ℕ) → k < q → needle_at ls (drop k bytes) ≡ None)
    → mover ls (drop q bytes) ≡ Some i
    → first_mover ls base bytes ≡ Some (record { needle = i; place = base + q })
first_mover-at ls [] base q i l before absent e = absurd (omega (arith, l))
first_mover-at ls (y ∷ bytes) base zero i l before absent e = rw e (ap (λ p. let s : Stretch = record { needle = i; place = p } in Some s) (omega arith))
first_mover-at ls (y ∷ bytes) base (suc q) i l before absent e =
    let here : mover ls (y ∷ bytes) ≡ None = before 0 (omega arith) in
    let none : needle_at ls (y ∷ bytes) ≡ None = absent 0 (omega arith) in
    rw (here, none)
    (first_mover-at ls bytes (base + 1) q i (omega (arith, l)) (λ k m. before (suc k) (omega (arith, m))) (λ k m. absent (suc k) (omega (arith, m))) e
    ∙ ap (λ p. let s : Stretch = record { needle = i; place = p } in Some s) (omega arith))

-- if a needle stands before any stretches, there is no answer
first_mover-over : (ls : List (List ℕ)) (bytes : List ℕ) (base q n : ℕ) → q < length bytes
    → ((k : ℕ) → k < suc q → mover ls (drop k bytes) ≡ None)
    → ((k : ℕ) → k < q → needle_at ls (drop k bytes) ≡ None) → needle_at ls (drop q bytes) ≡ Some n
    → first_mover ls base bytes ≡ None
first_mover-over ls [] base q n l before absent e = absurd (omega (arith, l))
first_mover-over ls (y ∷ bytes) base zero n l before absent e = let here : mover ls (y ∷ bytes) ≡ None = before 0 (omega arith) in rw (here, e) refl
first_mover-over ls (y ∷ bytes) base (suc q) n l before absent e =
    let here : mover ls (y ∷ bytes) ≡ None = before 0 (omega arith) in
    let none : needle_at ls (y ∷ bytes) ≡ None = absent 0 (omega arith) in
    rw (here, none) (first_mover-over ls bytes (base + 1) q n (omega (arith, l)) (λ k m. before (suc k) (omega (arith, m))) (λ k m. absent (suc k) (omega (arith, m))) e)

module _ (ls : List (List ℕ)) (b : List ℕ) (some : list_any is_empty ls ≡ false) (r : Range ℕ) (h : hit ls b ≡ Some r) where
  -- the hit starts before the end of the bytes
  pub hit-inside : r.start < length b
  hit-inside = inside ls b some r h

  -- the longest needle has a byte
  pub longest-positive : 0 < longest ls
  longest-positive = let f = first ls b some r h in omega (arith, has-byte ls b some r h, longest-bound ls f.index f.listed)

  -- if none stretches at the places below q that were looked at, none does at any place below q
  passed : (q : ℕ) → q ≤ length b
      → ((k : ℕ) → length b - (longest ls - 1) ≤ k → k < q → mover ls (drop k b) ≡ None)
      → (k : ℕ) → k < q → mover ls (drop k b) ≡ None
  passed q fits looked k l =
      elim (cases_lt k (length b - (longest ls - 1))) [
        | inl m ↦ mover-long ls (drop k b) (omega (arith, m, length-drop k b, longest-positive))
        | inr m ↦ looked k m l
      ]

  -- a needle that stretches at a place that is looked at is what could move the hit
  pub stretch-found : (q i : ℕ) → q ≤ r.start
      → ((k : ℕ) → length b - (longest ls - 1) ≤ k → k < q → mover ls (drop k b) ≡ None)
      → mover ls (drop q b) ≡ Some i
      → stretch_of ls b ≡ Some (record { needle = i; place = q })
  stretch-found q i l looked e =
      let w = hit-inside in
      stretch-first ls b some
      ∙ first_mover-at ls b 0 q i (omega (arith, l, w)) (passed q (omega (arith, l, w)) looked) (λ k m. absent-before ls b some r h k (omega (arith, m, l))) e
      ∙ ap (λ p. let s : Stretch = record { needle = i; place = p } in Some s) (omega arith)

  -- if none stretches up to the hit, nothing can move it
  pub stretch-over : ((k : ℕ) → length b - (longest ls - 1) ≤ k → k < r.start + 1
      → mover ls (drop k b) ≡ None) → stretch_of ls b ≡ None
  stretch-over looked =
      let w = hit-inside in
      let n = stands-some ls b some r h in
      let all = passed (r.start + 1) (omega (arith, w)) looked in
      stretch-first ls b some ∙ first_mover-over ls b 0 r.start n.0 w (λ k m. all k (omega (arith, m))) (absent-before ls b some r h) n.1

-- the code answers `None` exactly if the hit is definite
pub definite-says : (ls : List (List ℕ)) (b : List ℕ) (r : Range ℕ) (o : Option Stretch)
    → hit ls b ≡ Some r → o ≡ stretch_of ls b → (IsNone o ↔ IsTrue (hit_is_definite ls b))
definite-says ls b r None h e = (λ _. definite-from ls b r h (sym e), λ _. refl)
definite-says ls b r (Some s) h e = (λ f. absurd (false≢true (sym f)), λ d. absurd (none-some s (sym (e ∙ (definite-parts ls b d).1))))

-- ---- needles of one length

-- each needle of a list of one length has that length
have-length : (m : ℕ) (ls : List (List ℕ)) (i : ℕ) → have_length m ls ≡ true → i < length ls
    → length (needle_of ls i) ≡ m
have-length m [] i h l = absurd (omega (arith, l))
have-length m (n ∷ ls) zero h l = eqb-true (length n) m (and_parts (length n == m) (have_length m ls) h).0
have-length m (n ∷ ls) (suc i) h l = have-length m ls i (and_parts (length n == m) (have_length m ls) h).1 (omega (arith, l))

-- any two needles of one length are as long as each other
same-length : (ls : List (List ℕ)) → have_one_length ls ≡ true → (i j : ℕ) → i < length ls
    → j < length ls → length (needle_of ls i) ≡ length (needle_of ls j)
same-length [] h i j l k = absurd (omega (arith, l))
same-length (n ∷ ls) h i j l k = let all : have_length (length n) (n ∷ ls) ≡ true = and_from (length n == length n) (have_length (length n) ls) (eq-eqb (length n) (length n) refl) h in have-length (length n) (n ∷ ls) i all l ∙ sym (have-length (length n) (n ∷ ls) j all k)

-- a hit of needles of one length is definite
pub one-length : (ls : List (List ℕ)) (b : List ℕ) (r : Range ℕ) → have_one_length ls ≡ true
    → hit ls b ≡ Some r → hit_is_definite ls b ≡ true
one-length ls b r one h =
    elim (cases_Bool (list_any is_empty ls)) [
      | inl e ↦ definite-from ls b r h (stretch-empty ls b e)
      | inr e ↦ elim (none-or-some (stretch_of ls b)) [
        | inl f ↦ definite-from ls b r h f
        | inr f ↦
            let t = stretch-some ls b e r h f.0 (sym (stretch-first ls b e) ∙ f.1) in
            let c = t.can_move in
            let i = first ls b e r h in
            let same = same-length ls one f.0.needle i.index c.listed i.listed in
            let low : f.0.place ≤ r.start = elim c.first [ inl k ↦ omega (arith, k) | inr k ↦ omega (arith, k.0) ] in
            absurd (omega (arith, same, low, c.stretches.1, fits ls b e r h, length-drop r.start b, length-drop f.0.place b))
      ]
    ]
