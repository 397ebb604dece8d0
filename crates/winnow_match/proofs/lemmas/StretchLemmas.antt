-- Needles that stretch, as facts.
use Rattle.std.proofs.Common.{◌≡◌, ℕ, zero, suc, ◌+◌, ◌<◌, ◌⊎◌, true, false, cond, List, [], ◌∷◌, length, drop, Option, Some, None, refl, sym, arith, subst, inl, inr}
use Rattle.std.specs.Prelude.{nat_lt, option_map}
use Rattle.std.proofs.lemmas.Bool.{and_parts, and_from, cases_Bool, ltb-true, lt-ltb}
use Rattle.std.proofs.lemmas.Option.{same_Some, none-some}
use Rattle.winnow_match.specs.Comparison.{is_prefix, IsPrefixOf}
use Rattle.winnow_match.specs.Search.{needle_at, needle_of}
use Rattle.winnow_match.proofs.lemmas.ByteFrontLemmas.{IsPrefixOf-is_prefix, is_prefix-IsPrefixOf}
use Rattle.winnow_match.proofs.lemmas.HitLemmas.{below-suc}
use Rattle.winnow_match.specs.declared.needles.Stretch.{Stretch}
use Rattle.winnow_match.specs.Stretch.{stretches, mover, mover_or_later, first_mover}

-- an option is `None` or has a value
pub none-or-some : {A : Type 0} (o : Option A) → (o ≡ None) ⊎ ((a : A) × (o ≡ Some a))
none-or-some None = inl refl
none-or-some (Some a) = inr (a, refl)

-- the value before the mapping of a mapped option
mapped-some : (o : Option ℕ) (i : ℕ) → option_map (λ k. k + 1) o ≡ Some i
    → (j : ℕ) × (o ≡ Some j) × (i ≡ suc j)
mapped-some None i h = absurd (none-some i h)
mapped-some (Some j) i h = let e = same_Some (j + 1) i h in (j, refl, omega (arith, e))

-- an option whose mapped value is `None` is `None`
mapped-none : (o : Option ℕ) → option_map (λ k. k + 1) o ≡ None → o ≡ None
mapped-none None h = refl
mapped-none (Some j) h = absurd (none-some (j + 1) (sym h))

-- ---- one needle

module _ (n xs : List ℕ) where
  -- `stretches` as a fact, in both directions
  pub stretches-parts : stretches n xs ≡ true → IsPrefixOf xs n × (length xs < length n)
  stretches-parts h =
      let p = and_parts (is_prefix xs n) (nat_lt (length xs) (length n)) h in (IsPrefixOf-is_prefix xs n p.0, ltb-true (length xs) (length n) p.1)

  pub stretches-from : IsPrefixOf xs n × (length xs < length n) → stretches n xs ≡ true
  stretches-from f = and_from (is_prefix xs n) (nat_lt (length xs) (length n)) (is_prefix-IsPrefixOf xs n f.0) (lt-ltb (length xs) (length n) f.1)

-- ---- the first listed needle that stretches

-- needle i stretches here, and none listed before it stretches or stands here
pub record IsFirstStretching (ls : List (List ℕ)) (xs : List ℕ) (i : ℕ) : Type 0 where
  pub listed : i < length ls
  pub stretched : stretches (needle_of ls i) xs ≡ true
  pub absent : (j : ℕ) → j < i → is_prefix (needle_of ls j) xs ≡ false
  pub before : (j : ℕ) → j < i → stretches (needle_of ls j) xs ≡ false

-- `mover` gives the first listed needle that stretches, with none before it that stands
pub mover-some : (ls : List (List ℕ)) (xs : List ℕ) (i : ℕ) → mover ls xs ≡ Some i
    → IsFirstStretching ls xs i
mover-some [] xs i h = absurd (none-some i h)
mover-some (n ∷ ls) xs i h =
    let e : cond (is_prefix n xs) None (cond (stretches n xs) (Some 0) (option_map (λ k. k + 1) (mover ls xs))) ≡ Some i = h in
    elim (cases_Bool (is_prefix n xs)) [
      | inl f ↦ absurd (none-some i (rw f at e))
      | inr f ↦ elim (cases_Bool (stretches n xs)) [
        | inl g ↦
            let is : 0 ≡ i = same_Some 0 i (rw (f, g) at e) in
            subst (IsFirstStretching (n ∷ ls) xs) is
            (record { listed = omega arith; stretched = g; absent = λ j l. absurd (omega (arith, l)); before = λ j l. absurd (omega (arith, l)) })
        | inr g ↦
            let later = mapped-some (mover ls xs) i (rw (f, g) at e) in
            let s = mover-some ls xs later.0 later.1 in
            subst (IsFirstStretching (n ∷ ls) xs) (sym later.2)
            (record {
              listed = omega (arith, s.listed);
              stretched = s.stretched;
              absent = below-suc (λ j. is_prefix (needle_of (n ∷ ls) j) xs ≡ false) later.0 f s.absent;
              before = below-suc (λ j. stretches (needle_of (n ∷ ls) j) xs ≡ false) later.0 g s.before;
            })
      ]
    ]

-- the step of `mover-none`
later-none : (n : List ℕ) (ls : List (List ℕ)) (xs : List ℕ) → stretches n xs ≡ false
    → ((i : ℕ) → i < length ls → ((j : ℕ) → j < suc i → is_prefix (needle_of ls j) xs ≡ false)
    → stretches (needle_of ls i) xs ≡ false) → (i : ℕ) → i < length (n ∷ ls)
    → ((j : ℕ) → j < suc i → is_prefix (needle_of (n ∷ ls) j) xs ≡ false)
    → stretches (needle_of (n ∷ ls) i) xs ≡ false
later-none n ls xs g f zero l absent = g
later-none n ls xs g f (suc i) l absent = f i (omega (arith, l)) (λ j k. absent (suc j) (omega (arith, k)))

-- if `mover` is `None`, no needle stretches that is listed before each one that stands
pub mover-none : (ls : List (List ℕ)) (xs : List ℕ) → mover ls xs ≡ None → (i : ℕ)
    → i < length ls → ((j : ℕ) → j < suc i → is_prefix (needle_of ls j) xs ≡ false)
    → stretches (needle_of ls i) xs ≡ false
mover-none [] xs h i l absent = absurd (omega (arith, l))
mover-none (n ∷ ls) xs h i l absent =
    let e : cond (is_prefix n xs) None (cond (stretches n xs) (Some 0) (option_map (λ k. k + 1) (mover ls xs))) ≡ None = h in
    let f : is_prefix n xs ≡ false = absent 0 (omega arith) in
    elim (cases_Bool (stretches n xs)) [
      | inl g ↦ absurd (none-some 0 (sym (rw (f, g) at e)))
      | inr g ↦
          let later : mover ls xs ≡ None = mapped-none (mover ls xs) (rw (f, g) at e) in
          later-none n ls xs g (mover-none ls xs later) i l absent
    ]

-- ---- places

-- the first place at which a needle stretches, with none that stands before it
pub record IsFirstStretch (ls : List (List ℕ)) (bytes : List ℕ) (base : ℕ) (s : Stretch) : Type 0 where
  pub place : ℕ
  pub is : s.place ≡ base + place
  pub here : mover ls (drop place bytes) ≡ Some s.needle
  pub before : (k : ℕ) → k < place → mover ls (drop k bytes) ≡ None
  pub absent : (k : ℕ) → k < place → needle_at ls (drop k bytes) ≡ None

-- `first_mover` gives the first place with a needle that stretches, before any that stands
pub first_mover-some : (ls : List (List ℕ)) (bytes : List ℕ) (base : ℕ) (s : Stretch)
    → first_mover ls base bytes ≡ Some s → IsFirstStretch ls bytes base s
first_mover-some ls [] base s h = absurd (none-some s h)
first_mover-some ls (y ∷ bytes) base s h =
    let e : mover_or_later base (mover ls (y ∷ bytes)) (needle_at ls (y ∷ bytes)) (first_mover ls (base + 1) bytes) ≡ Some s = h in
    elim (none-or-some (mover ls (y ∷ bytes))) [
      | inr f ↦
          let is : ◌≡◌ {A = Stretch} (record { needle = f.0; place = base }) s = same_Some (record { needle = f.0; place = base }) s (rw f.1 at e) in
          subst (IsFirstStretch ls (y ∷ bytes) base) is
          (record { place = 0; is = omega arith; here = f.1; before = λ k l. absurd (omega (arith, l)); absent = λ k l. absurd (omega (arith, l)) })
      | inl f ↦ elim (none-or-some (needle_at ls (y ∷ bytes))) [
        | inr g ↦ absurd (none-some s (rw (f, g.1) at e))
        | inl g ↦
            let later = first_mover-some ls bytes (base + 1) s (rw (f, g) at e) in
            record {
              place = suc later.place;
              is = omega (arith, later.is);
              here = later.here;
              before = below-suc (λ k. mover ls (drop k (y ∷ bytes)) ≡ None) later.place f later.before;
              absent = below-suc (λ k. needle_at ls (drop k (y ∷ bytes)) ≡ None) later.place g later.absent;
            }
      ]
    ]

-- the step of `first_mover-none`
at-place : (ls : List (List ℕ)) (y : ℕ) (bytes : List ℕ) → mover ls (y ∷ bytes) ≡ None
    → (needle_at ls (y ∷ bytes) ≡ None → (q : ℕ) → q < length bytes
    → ((k : ℕ) → k < q → needle_at ls (drop k bytes) ≡ None) → mover ls (drop q bytes) ≡ None)
    → (q : ℕ) → q < length (y ∷ bytes)
    → ((k : ℕ) → k < q → needle_at ls (drop k (y ∷ bytes)) ≡ None)
    → mover ls (drop q (y ∷ bytes)) ≡ None
at-place ls y bytes f later zero l absent = f
at-place ls y bytes f later (suc q) l absent = later (absent 0 (omega arith)) q (omega (arith, l)) (λ k m. absent (suc k) (omega (arith, m)))

-- if `first_mover` is `None`, none stretches up to the first place at which a needle stands
pub first_mover-none : (ls : List (List ℕ)) (bytes : List ℕ) (base : ℕ)
    → first_mover ls base bytes ≡ None → (q : ℕ) → q < length bytes
    → ((k : ℕ) → k < q → needle_at ls (drop k bytes) ≡ None) → mover ls (drop q bytes) ≡ None
first_mover-none ls [] base h q l absent = absurd (omega (arith, l))
first_mover-none ls (y ∷ bytes) base h q l absent =
    let e : mover_or_later base (mover ls (y ∷ bytes)) (needle_at ls (y ∷ bytes)) (first_mover ls (base + 1) bytes) ≡ None = h in
    elim (none-or-some (mover ls (y ∷ bytes))) [
      | inr f ↦ let s : Stretch = record { needle = f.0; place = base } in absurd (none-some s (sym (rw f.1 at e)))
      | inl f ↦ at-place ls y bytes f (λ g. first_mover-none ls bytes (base + 1) (rw (f, g) at e)) q l absent
    ]
