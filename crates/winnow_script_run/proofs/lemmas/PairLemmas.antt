-- Two lists of the same length, related element by element.
use Rattle.std.proofs.Common.{◌≡◌, ℕ, zero, suc, List, [], ◌∷◌, ◌++◌, None, Some, refl, subst}
use Rattle.std.specs.Prelude.{slice_get}
use Rattle.std.specs.List.{AllZip}
use Rattle.std.proofs.lemmas.Option.{none-some, same_Some}

module _ {A B : Type 0} (R : A → B → Type 0) where
  -- related lists stay related when a related pair is appended
  pub AllZip-more : (xs : List A) (ys : List B) (x : A) (y : B) → AllZip R xs ys → R x y
      → AllZip R (xs ++ x ∷ []) (ys ++ y ∷ [])
  AllZip-more [] [] x y h r = (r, tt)
  AllZip-more (a ∷ xs) (b ∷ ys) x y h r = (h.0, AllZip-more xs ys x y h.1 r)
  AllZip-more [] (b ∷ ys) x y h r = absurd h
  AllZip-more (a ∷ xs) [] x y h r = absurd h

  -- an element has a related element at the same index of the other list
  pub AllZip-found : (xs : List A) (ys : List B) (k : ℕ) (x : A) → AllZip R xs ys
      → slice_get xs k ≡ Some x → (y : B) × ((slice_get ys k ≡ Some y) × R x y)
  AllZip-found [] ys k x h e = absurd (none-some x e)
  AllZip-found (a ∷ xs) [] k x h e = absurd h
  AllZip-found (a ∷ xs) (b ∷ ys) zero x h e = (b, (refl, subst (λ z. R z b) (same_Some a x e) h.0))
  AllZip-found (a ∷ xs) (b ∷ ys) (suc k) x h e = AllZip-found xs ys k x h.1 e

  -- an index without an element has none in the other list
  pub AllZip-missing : (xs : List A) (ys : List B) (k : ℕ) → AllZip R xs ys → slice_get xs k ≡ None
      → slice_get ys k ≡ None
  AllZip-missing [] [] k h e = refl
  AllZip-missing [] (b ∷ ys) k h e = absurd h
  AllZip-missing (a ∷ xs) [] k h e = absurd h
  AllZip-missing (a ∷ xs) (b ∷ ys) zero h e = absurd (cc)
  AllZip-missing (a ∷ xs) (b ∷ ys) (suc k) h e = AllZip-missing xs ys k h.1 e
