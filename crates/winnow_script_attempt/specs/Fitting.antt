-- Searches in few bytes, for the needles that can stand there, and for their first bytes.
use Rattle.std.specs.Prelude.{◌≡◌, ℕ, ◌≤◌, List, [], ◌∷◌, map, length, slice_index, Option, None, Some}
use Rattle.std.specs.Borrow.{Bor}
use Rattle.winnow_match.specs.declared.needles.Needles.{Needles}
use Rattle.winnow_match.specs.Search.{hit, bytes_of_needles}

-- the needles that are left, if there are any
abbrev pub needles_left : Option (Needles (Bor (List ℕ))) → List (List ℕ)
needles_left None = []
needles_left (Some needles) = bytes_of_needles needles

-- in bytes of at most this length, the needles that are left find what all of them find
abbrev pub FindAlike : ℕ → List (List ℕ) → Option (Needles (Bor (List ℕ))) → Type 0
FindAlike len needles few = (bytes : List ℕ) → length bytes ≤ len → hit needles bytes ≡ hit (needles_left few) bytes

-- the first byte of each needle, as needles
abbrev pub first_bytes : List (List ℕ) → List (List ℕ)
first_bytes needles = map (λ needle. slice_index needle 0 ∷ []) needles
