-- Iterators that stay at their end.
use Rattle.std.specs.Prelude.{Option, Some, None}

-- after `None`, no call gives an item
abbrev pub IsFused : {S A : Type 0} → (S → Option A → S → Type 0) → Type 0
IsFused {S} {A} gives = (s t u : S) (x : A) → gives s None t → ¬ (gives t (Some x) u)
