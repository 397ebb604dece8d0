-- The binding powers of the operators that an expression may have outside of its operands.
use Rattle.std.specs.Prelude.{◌≢◌, ◌≤ℤ◌, ◌<ℤ◌, ℤ, Option, Some, None}
use Rattle.winnow_expression.specs.declared.level.Level.{Level}
use Rattle.winnow_expression.specs.declared.level.Level.TheVariants.{AtLeast, Above}

-- an operator may have this power
abbrev pub Admits : Level → ℤ → Type 0
Admits (AtLeast least) power = least ≤ℤ power
Admits (Above below) power = below <ℤ power

-- an infix operator may have this power, after one beside which no other of its power may stand
abbrev pub MayFollow : Level → Option ℤ → ℤ → Type 0
MayFollow level (Some alone) power = Admits level power × (alone ≢ power)
MayFollow level None power = Admits level power
