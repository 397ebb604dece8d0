-- Lists of values that are the same, as far as both go.
use Rattle.std.specs.Prelude.{◌≡◌, true, List, [], ◌∷◌, ◌⊎◌, ⊤}
use Rattle.winnow_reader.specs.State.{ReaderState}

-- each value is the same as the other list's
abbrev pub AreAlike : {O : Type 0} → (O → O → Type 0) → List O → List O → Type 0
AreAlike same [] [] = ⊤
AreAlike same [] (y ∷ ys) = ⊥
AreAlike same (x ∷ xs) [] = ⊥
AreAlike same (x ∷ xs) (y ∷ ys) = same x y × AreAlike same xs ys

-- so is each of the one list, and the other may go on
abbrev pub IsFrontOf : {O : Type 0} → (O → O → Type 0) → List O → List O → Type 0
IsFrontOf same [] ys = ⊤
IsFrontOf same (x ∷ xs) [] = ⊥
IsFrontOf same (x ∷ xs) (y ∷ ys) = same x y × IsFrontOf same xs ys

-- one list is a front of the other
abbrev pub AreFronts : {O : Type 0} → (O → O → Type 0) → List O → List O → Type 0
AreFronts same xs ys = IsFrontOf same xs ys ⊎ IsFrontOf same ys xs

-- the input has ended, and nothing remains
abbrev pub IsThrough : {R : Type 0} → ReaderState R → Type 0
IsThrough f = (f.ended ≡ true) × (f.ahead ≡ [])
