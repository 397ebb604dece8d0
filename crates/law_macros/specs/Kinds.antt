-- What stands after a kind, and the values of two fields.
use Rattle.std.specs.Prelude.{◌≡◌, ℕ, ◌==◌, ◌||◌, cond}
use Rattle.law_macros.specs.declared.meanings.Both.{Both}

-- what belongs to this kind: the first at 0, the second at 1 and 2, the other at each other one
abbrev pub by_kind : {A : Type 1} → A → A → A → ℕ → A
by_kind first second other kind = cond (kind == 0) first (cond (kind == 1 || kind == 2) second other)

-- the fields are the first and the last of three values
abbrev pub HasBoth : {A S B : Type 0} → A × S × B → Both A B → Type 0
HasBoth values both = (both.first ≡ values.0) × (both.second ≡ values.2)
