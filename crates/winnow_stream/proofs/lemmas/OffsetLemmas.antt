-- Valid offsets: those after a number of tokens, and at the first token that a set holds.
use Rattle.std.proofs.Common.{◌≡◌, ℕ, zero, suc, ◌+◌, ◌≤◌, Bool, true, false, List, [], ◌∷◌, length, take, drop, Some, None, Result, Ok, Err, refl, ap, sym, ◌∙◌, subst, inl, inr, arith, add-zero, zero-add}
use Rattle.std.specs.Prelude.{◌⊎◌, Option, is_some}
use Rattle.std.proofs.lemmas.Bool.Decides.{leb_tells}
use Rattle.winnow_stream.specs.declared.needed.Needed.{Needed}
use Rattle.winnow_stream.specs.Source.{width, HasPositiveWidths, RefusesAll, AcceptsFirst, FindsFirst, first_held, first_offset, first_token, offsets_from}
use Rattle.winnow_stream.specs.Front.{is_offset}
use Rattle.winnow_stream.specs.Shortage.{offset_at}
use Rattle.winnow_stream.proofs.lemmas.FrontLemmas.{front_count-place}

-- equal results and options have equal values, and an error is no result
ok-parts : {a b : ℕ} → ◌≡◌ {A = Result ℕ Needed} (Ok a) (Ok b) → a ≡ b
ok-parts e = cc

err-parts : {n : Needed} {b : ℕ} → ◌≡◌ {A = Result ℕ Needed} (Err n) (Ok b) → ⊥
err-parts e = cc

some-same : {a b : ℕ} → Some a ≡ Some b → a ≡ b
some-same e = cc

-- a truth value is true or false
bool_cases : (b : Bool) → (b ≡ true) ⊎ (b ≡ false)
bool_cases true = inl refl
bool_cases false = inr refl

module _ {A : Type 0} where
  -- an offset that `offset_at` gives is valid
  pub is_offset-offset_at : (counts_shortage : Bool) (r : List (A × ℕ)) (n w : ℕ)
      → HasPositiveWidths r → offset_at counts_shortage r n ≡ Ok w → is_offset r w ≡ true
  is_offset-offset_at counts_shortage r n w h e =
      elim (leb_tells n (length r)) [
        | inl fits ↦
            let same : width (take n r) ≡ w = ok-parts (rw fits.0 at e) in
            subst (λ m. is_offset r m ≡ true) same (ap is_some (front_count-place r n h fits.1))
        | inr short ↦ absurd (err-parts (rw short.0 at e))
      ]

  -- the first held token stands after some number of tokens
  pub place-first_held : (holds : A → Bool) (r : List (A × ℕ)) (k w : ℕ)
      → first_held holds (offsets_from k r) ≡ Some w
      → (i : ℕ) × ((i ≤ length r) × (k + width (take i r) ≡ w))
  place-first_held holds [] k w e = absurd (cc)
  place-first_held holds (x ∷ xs) k w e =
      elim (bool_cases (holds x.0)) [
        | inl held ↦ let f = rw held at e in (0, (omega arith, add-zero k ∙ some-same f))
        | inr other ↦
            let f = rw other at e in
            let later = place-first_held holds xs (k + x.1) w f in
            (suc later.0, (omega (arith, later.1.0), omega (arith, later.1.1)))
      ]

  -- the offset of the first held token is valid
  pub is_offset-first_offset : (holds : A → Bool) (r : List (A × ℕ)) (w : ℕ) → HasPositiveWidths r
      → first_offset holds r ≡ Some w → is_offset r w ≡ true
  is_offset-first_offset holds r w h e =
      let at = place-first_held holds r 0 w e in
      subst (λ m. is_offset r m ≡ true) (sym (zero-add _) ∙ at.1.1) (ap is_some (front_count-place r at.0 h at.1.0))

  -- `offset_at` gives the width of the first n tokens, and n tokens remain
  offset_at-parts : (counts_shortage : Bool) (r : List (A × ℕ)) (n w : ℕ)
      → offset_at counts_shortage r n ≡ Ok w → (n ≤ length r) × (w ≡ width (take n r))
  offset_at-parts counts_shortage r n w e =
      elim (leb_tells n (length r)) [
        | inl fits ↦ (fits.1, sym (ok-parts (rw fits.0 at e)))
        | inr short ↦ absurd (err-parts (rw short.0 at e))
      ]

  -- the two halves of `offset_at-parts`
  pub offset_at-within : (counts_shortage : Bool) (r : List (A × ℕ)) (n w : ℕ)
      → offset_at counts_shortage r n ≡ Ok w → n ≤ length r
  offset_at-within counts_shortage r n w e = (offset_at-parts counts_shortage r n w e).0

  pub offset_at-place : (counts_shortage : Bool) (r : List (A × ℕ)) (n w : ℕ)
      → offset_at counts_shortage r n ≡ Ok w → w ≡ width (take n r)
  offset_at-place counts_shortage r n w e = (offset_at-parts counts_shortage r n w e).1

  -- a search from a width on finds the first token that is held
  held-from : (holds : A → Bool) (r : List (A × ℕ)) (k w : ℕ)
      → first_held holds (offsets_from k r) ≡ Some w
      → (v : ℕ) × ((w ≡ k + v) × AcceptsFirst (λ x b. holds x ≡ b) r v)
  held-from holds [] k w e = absurd (cc)
  held-from holds (x ∷ xs) k w e =
      elim (bool_cases (holds x.0)) [
        | inl held ↦ let f = rw held at e in (0, (sym (add-zero k ∙ some-same f), (0, (refl, tt, (x.0, (refl, held))))))
        | inr other ↦
            let f = rw other at e in
            let later = held-from holds xs (k + x.1) w f in
            let i = later.1.1.0 in
            let at = later.1.1.1 in
            (x.1 + later.0, (omega (arith, later.1.0), (suc i, (ap (λ m. x.1 + m) at.0, (other, at.1), at.2))))
      ]

  -- a search that finds nothing means that each token is refused
  none-held : (holds : A → Bool) (r : List (A × ℕ)) (k : ℕ)
      → first_held holds (offsets_from k r) ≡ None → RefusesAll (λ x b. holds x ≡ b) r
  none-held holds [] k e = tt
  none-held holds (x ∷ xs) k e =
      elim (bool_cases (holds x.0)) [
        | inl held ↦ absurd (let f = rw held at e in cc)
        | inr other ↦ (other, none-held holds xs (k + x.1) (rw other at e))
      ]

  -- the search finds the first held token, whichever its answer is
  finds-held : (holds : A → Bool) (r : List (A × ℕ)) (found : Option ℕ)
      → first_offset holds r ≡ found → FindsFirst (λ x b. holds x ≡ b) r found
  finds-held holds r None e = none-held holds r 0 e
  finds-held holds r (Some w) e =
      let at = held-from holds r 0 w e in
      subst (λ v. AcceptsFirst (λ x b. holds x ≡ b) r v) (sym (at.1.0 ∙ zero-add _)) at.1.1

  -- the same, of `first_offset` itself
  pub FindsFirst-first_offset : (holds : A → Bool) (r : List (A × ℕ))
      → FindsFirst (λ x b. holds x ≡ b) r (first_offset holds r)
  FindsFirst-first_offset holds r = finds-held holds r (first_offset holds r) refl

  -- a token that stands after k tokens stands within the list
  within-first : (r : List (A × ℕ)) (k : ℕ) (x : A) → first_token (drop k r) ≡ Some x → k ≤ length r
  within-first r zero x e = omega arith
  within-first [] (suc k) x e = absurd (cc)
  within-first (y ∷ ys) (suc k) x e = let l = within-first ys k x e in omega (arith, l)

  -- the place of a token that a test accepts first is a valid offset
  pub is_offset-accepted : (answers : A → Bool → Type 0) (r : List (A × ℕ)) (w : ℕ)
      → HasPositiveWidths r → AcceptsFirst answers r w → is_offset r w ≡ true
  is_offset-accepted answers r w h (k, (at, refused, (x, (e, a)))) =
      subst (λ m. is_offset r m ≡ true) (sym at) (ap is_some (front_count-place r k h (within-first r k x e)))
