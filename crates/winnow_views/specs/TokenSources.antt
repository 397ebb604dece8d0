-- Tokens that are references to the elements of a slice.
use Rattle.std.specs.Prelude.{◌≡◌, ℕ, suc, ◌+◌, List, [], ◌∷◌, length, refl}
use Rattle.std.specs.Borrow.{Bor, RattleType}
use Rattle.std.specs.Mem.{type_size}
use Rattle.std.proofs.Common.{ap, ◌∙◌}
use Rattle.winnow_stream.specs.Source.{Source, units, width}
use Rattle.winnow_stream.specs.Units.{width-units}

-- a reference to each element of a list that starts at this address; each element takes `size`
-- bytes
abbrev pub references : {T : Type 0} → ℕ → ℕ × ℕ → List T → List (Bor T)
references size at [] = []
references size at (x ∷ xs) = record { ref_ptr = at; now = x } ∷ references size (at.0, size + at.1) xs

-- a slice of the type R as a source: a reference to each element, of width 1
abbrev pub tokens_of : (R : RattleType) → Bor (List R.Denot) → Source (Bor R.Denot)
tokens_of R s = units (references (type_size R) s.ref_ptr s.now)

-- there is one reference for each element
pub length-references : {T : Type 0} (size : ℕ) (at : ℕ × ℕ) (xs : List T)
    → length (references size at xs) ≡ length xs
length-references size at [] = refl
length-references size at (x ∷ xs) = ap suc (length-references size (at.0, size + at.1) xs)

-- the width of a slice of tokens is its length
pub width-tokens_of : (R : RattleType) (s : Bor (List R.Denot))
    → width (tokens_of R s) ≡ length s.now
width-tokens_of R s = width-units (references (type_size R) s.ref_ptr s.now) ∙ length-references (type_size R) s.ref_ptr s.now
