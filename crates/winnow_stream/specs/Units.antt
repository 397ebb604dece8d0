-- Tokens of width 1: the two facts that a stream of them needs for the laws of `Stream`.
use Rattle.std.proofs.Common.{◌≡◌, refl, arith, List, [], ◌∷◌, length}
use Rattle.winnow_stream.specs.Source.{units, width, HasPositiveWidths}

-- the width of tokens of width 1 is their number
pub width-units : {T : Type 0} (xs : List T) → width (units xs) ≡ length xs
width-units [] = refl
width-units (x ∷ xs) = let e = width-units xs in omega (arith, e)

-- tokens of width 1 meet the law of positive widths
pub HasPositiveWidths-units : {T : Type 0} (xs : List T) → HasPositiveWidths (units xs)
HasPositiveWidths-units [] = tt
HasPositiveWidths-units (x ∷ xs) = (omega arith, HasPositiveWidths-units xs)
