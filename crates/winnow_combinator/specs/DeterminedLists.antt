-- When lists of values are the same.
use Rattle.std.specs.Prelude.{List, [], ◌∷◌, ⊤}

-- the lists have the same length, and each value is the same
abbrev pub AreSameEach : {O : Type 0} → (O → O → Type 0) → List O → List O → Type 0
AreSameEach same [] [] = ⊤
AreSameEach same [] (y ∷ ys) = ⊥
AreSameEach same (x ∷ xs) [] = ⊥
AreSameEach same (x ∷ xs) (y ∷ ys) = same x y × AreSameEach same xs ys

-- a step gives the same for values and parts that are the same
abbrev pub StepsRespect : {O P : Type 0} → (O → O → Type 0) → (P → P → Type 0)
    → (O → P → O → Type 0) → Type 0
StepsRespect {O} {P} same alike step = (x y : O) (p q : P) (l r : O) → same x y → alike p q → step x p l → step y q r → same l r

-- all values from which a fold may start are the same
abbrev pub IsOneStart : {O : Type 0} → (O → O → Type 0) → (O → Type 0) → Type 0
IsOneStart {O} same starts = (x y : O) → starts x → starts y → same x y
