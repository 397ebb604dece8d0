-- A list of code units as a source, where each is a token of width 2.
use Rattle.std.proofs.Common.{◌≡◌, ◌*◌, List, [], ◌∷◌, length, map, refl, arith}
use Rattle.winnow_stream.specs.Source.{Source, width, HasPositiveWidths}

-- the source of a list of code units
abbrev pub pair_source : {T : Type 0} → List T → Source T
pair_source xs = map (λ x. (x, 2)) xs

-- a list of code units is twice as wide as it is long
pub width-pair_source : {T : Type 0} (xs : List T) → width (pair_source xs) ≡ 2 * length xs
width-pair_source [] = refl
width-pair_source (x ∷ xs) = let e = width-pair_source xs in omega (arith, e)

-- code units have positive widths
pub HasPositiveWidths-pair_source : {T : Type 0} (xs : List T) → HasPositiveWidths (pair_source xs)
HasPositiveWidths-pair_source [] = tt
HasPositiveWidths-pair_source (x ∷ xs) = (omega arith, HasPositiveWidths-pair_source xs)
