-- An operator of one operand, with its binding power.
use Rattle.std.specs.Prelude.{◌≡◌, ℤ}
use Rattle.winnow_expression.specs.declared.operators.Prefix.{Prefix}
use Rattle.winnow_expression.specs.declared.operators.Postfix.{Postfix}

-- the prefix operator has this power and is this one
abbrev pub HasPrefix : {T : Type 0} → Prefix T → ℤ × T → Type 0
HasPrefix prefix both = (prefix.0 ≡ both.0) × (prefix.1 ≡ both.1)

-- the postfix operator has this power and is this one
abbrev pub HasPostfix : {T : Type 0} → Postfix T → ℤ × T → Type 0
HasPostfix postfix both = (postfix.0 ≡ both.0) × (postfix.1 ≡ both.1)
