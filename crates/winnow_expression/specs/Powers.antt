-- The parts of an infix operator.
use Rattle.std.specs.Prelude.{ℤ, Option, Some, None}
use Rattle.winnow_expression.specs.declared.level.Level.{Level}
use Rattle.winnow_expression.specs.declared.level.Level.TheVariants.{AtLeast, Above}
use Rattle.winnow_expression.specs.declared.operators.Infix.{Infix}
use Rattle.winnow_expression.specs.declared.operators.Infix.TheVariants.{Left, Right, Neither}

module _ {C : Type 0} where
  -- the binding power of the operator
  abbrev pub power_of : Infix C → ℤ
  power_of (Left power x) = power
  power_of (Right power x) = power
  power_of (Neither power x) = power

  -- the powers of the operators on the right side of the operator: greater ones, and its own if it
  -- binds from the right
  abbrev pub right_of : Infix C → Level
  right_of (Left power x) = Above power
  right_of (Right power x) = AtLeast power
  right_of (Neither power x) = Above power

  -- the power of which no other operator may follow
  abbrev pub alone_of : Infix C → Option ℤ
  alone_of (Left power x) = None
  alone_of (Right power x) = None
  alone_of (Neither power x) = Some power

  -- which operator it is
  abbrev pub operator_of : Infix C → C
  operator_of (Left power x) = x
  operator_of (Right power x) = x
  operator_of (Neither power x) = x
