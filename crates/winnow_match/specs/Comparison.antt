-- The answer of a comparison of a literal with the front of some bytes.
use Rattle.std.specs.Prelude.{◌≡◌, ℕ, ◌<◌, ◌==◌, Bool, true, false, ◌&&◌, if◌then◌else◌, List, [], ◌∷◌, ◌++◌, length, IsTrue, ⊤}
use Rattle.winnow_stream.specs.Source.{Source, width}
use Rattle.winnow_stream.specs.Front.{is_offset}
use Rattle.winnow_match.specs.declared.compare.CompareResult.{CompareResult}
use Rattle.winnow_match.specs.declared.compare.CompareResult.TheVariants as compared

-- p is a front of xs
abbrev pub is_prefix : List ℕ → List ℕ → Bool
is_prefix [] xs = true
is_prefix (x ∷ p) [] = false
is_prefix (x ∷ p) (y ∷ xs) = x == y && is_prefix p xs

-- the same as a fact: xs is p and something after it
abbrev pub IsPrefixOf : List ℕ → List ℕ → Type 0
IsPrefixOf p xs = (rest : List ℕ) × (xs ≡ p ++ rest)

-- the literal is a front of the bytes, or they are a shorter front of it, or the two differ at some
-- place
abbrev pub comparison : List ℕ → List ℕ → CompareResult
comparison literal bytes =
    if is_prefix literal bytes then compared.Ok (length literal)
    else (if is_prefix bytes literal then compared.Incomplete else compared.Error)

-- if a literal stands at the front of r, it ends at an offset of r
abbrev pub EndsAtOffset : {T : Type 0} → CompareResult → Source T → Type 0
EndsAtOffset (compared.Ok n) r = IsTrue (is_offset r n)
EndsAtOffset compared.Incomplete r = ⊤
EndsAtOffset compared.Error r = ⊤

-- a literal that stands at the front of r has the width w, and one that r is too short for is wider
-- than r
abbrev pub AgreesWithWidth : {T : Type 0} → CompareResult → ℕ → Source T → Type 0
AgreesWithWidth (compared.Ok n) w r = n ≡ w
AgreesWithWidth compared.Incomplete w r = width r < w
AgreesWithWidth compared.Error w r = ⊤
