-- When the steps of a fold that may refuse a value give the same.
use Rattle.std.specs.Prelude.{Result, Ok, Err, ⊤}

-- two results of a step are the same: both took the value and have the same result, or both refused
-- it
abbrev pub AreSameIfTaken : {A C : Type 0} → (A → A → Type 0) → Result A C → Result A C → Type 0
AreSameIfTaken same (Ok x) (Ok y) = same x y
AreSameIfTaken same (Ok x) (Err d) = ⊥
AreSameIfTaken same (Err c) (Ok y) = ⊥
AreSameIfTaken same (Err c) (Err d) = ⊤

-- for results so far and values that are the same, a step gives the same
abbrev pub TriesRespect : {O A R : Type 0} → (A → A → Type 0) → (O → O → Type 0)
    → (R → R → Type 0) → (A → O → R → Type 0) → Type 0
TriesRespect {O} {A} {R} same alike equal step = (x y : A) (p q : O) (l r : R) → same x y → alike p q → step x p l → step y q r → equal l r
