-- The answers of a reader of expressions, in the words of expressions.
use Rattle.std.specs.Prelude.{◌≡◌, ℕ, ◌≤◌, ℤ, List, ◌++◌, length, Option, Some, None, Result, Ok, Err, ◌⊎◌, ⊤}
use Rattle.winnow_stream.specs.declared.needed.Needed.{Needed}
use Rattle.winnow_error.specs.declared.failure.Failure.{Failure}
use Rattle.winnow_error.specs.declared.failure.Failure.TheVariants.{Incomplete, Backtrack, Cut, Refused}
use Rattle.example_arithmetic_exact.specs.Expressions.{Expression, Writes}

-- the text is an expression of this value and then the rest, and no longer part of it is an
-- expression
abbrev pub IsLongest : Option ℤ → List ℕ → List ℕ → Type 0
IsLongest value whole rest = (front : List ℕ) × ((whole ≡ front ++ rest) × Writes Expression value front
    × ((other suffix : List ℕ) (x : Option ℤ) → whole ≡ other ++ suffix → Writes Expression x other
    → length other ≤ length front))

-- no part of the text, from its start on, is an expression
abbrev pub HasNone : List ℕ → Type 0
HasNone whole = (front rest : List ℕ) (x : Option ℤ) → whole ≡ front ++ rest → ¬ (Writes Expression x front)

-- the longest expression, and the text after it; or a backtrack, where there is none, or the
-- longest has no value
abbrev pub IsAnswer : {E : Type 0} → List ℕ → Result ℤ (Failure E Needed) → List ℕ → Type 0
IsAnswer whole (Ok value) rest = IsLongest (Some value) whole rest
IsAnswer whole (Err (Backtrack e)) rest = HasNone whole
    ⊎ ((suffix : List ℕ) × IsLongest None whole suffix)
IsAnswer whole (Err (Cut e)) rest = ⊤
IsAnswer whole (Err (Incomplete n)) rest = ⊥
IsAnswer whole (Err (Refused e)) rest = ⊤
