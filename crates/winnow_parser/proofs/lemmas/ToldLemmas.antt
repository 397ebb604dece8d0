-- A parser has one answer where a function computes its failures and its places.
use Rattle.std.specs.Prelude.{◌≡◌, Bool, ◌⊎◌}
use Rattle.std.proofs.Common.{inl, inr, sym, ◌∙◌, subst}
use Rattle.winnow_parser.specs.Outcome.{Ahead, Failed, Outcome, Gives, Fails, Meaning}
use Rattle.winnow_parser.specs.Determined.{IsGranted, IsDetermined}

-- the place after the value, or the failure
abbrev pub Told : Type 0 → Type 0
Told T = Failed T ⊎ Ahead T

-- the outcome is the one that was computed
abbrev pub IsTold : {O T : Type 0} → Told T → Outcome O T → Type 0
IsTold told (Gives x b) = told ≡ inr b
IsTold told (Fails f) = told ≡ inl f

module _ {O T : Type 0} (same : O → O → Type 0) (means : Meaning O T) (told : Bool → Ahead T → Told T) where
  -- a parser has one answer where a function computes its outcome, and equal places have the same
  -- value
  pub determined-told : ((partial : Bool) (a : Ahead T) (v : Outcome O T) → IsGranted v
      → means partial a v → IsTold (told partial a) v)
      → ((partial : Bool) (a b : Ahead T) (x y : O) → means partial a (Gives x b)
      → means partial a (Gives y b) → same x y) → IsDetermined same means
  determined-told tells alike partial a (Gives x b) (Gives y c) s t h k =
      let one : inr b ≡ inr c = sym (tells partial a (Gives x b) tt h) ∙ tells partial a (Gives y c) tt k in
      let place : b ≡ c = cc in
      (alike partial a b x y h (subst (λ p. means partial a (Gives y p)) (sym place) k), place)
  determined-told tells alike partial a (Gives x b) (Fails g) s t h k =
      absurd (let one : inr b ≡ inl g = sym (tells partial a (Gives x b) tt h) ∙ tells partial a (Fails g) t k in cc)
  determined-told tells alike partial a (Fails f) (Gives y c) s t h k =
      absurd (let one : inl f ≡ inr c = sym (tells partial a (Fails f) s h) ∙ tells partial a (Gives y c) tt k in cc)
  determined-told tells alike partial a (Fails f) (Fails g) s t h k =
      let one : inl f ≡ inl g = sym (tells partial a (Fails f) s h) ∙ tells partial a (Fails g) t k in cc
