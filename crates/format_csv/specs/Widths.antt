-- The numbers of fields of records.
use Rattle.std.specs.Prelude.{◌≡◌, ◌≢◌, ℕ, List, [], ◌∷◌, take, drop, Option, Some, None, All, vec_len}
use Rattle.std.specs.declared.vec.Vec.{Vec}
use Rattle.std.specs.declared.alloc.Global.{Global}

-- a record, as a vector of fields
abbrev pub RowVec : Type 0
RowVec = Vec (Vec ℕ Global) Global

-- the number of fields of the first record
abbrev pub first_width : List RowVec → ℕ
first_width [] = 0
first_width (row ∷ rows) = vec_len row

-- each record has this number of fields
abbrev pub HaveWidth : ℕ → List RowVec → Type 0
HaveWidth n rows = All (λ row. vec_len row ≡ n) rows

-- the record at this index is the first that has another number of fields than the first record; or
-- there is none
abbrev pub IsFirstUneven : List RowVec → Option ℕ → Type 0
IsFirstUneven rows None = HaveWidth (first_width rows) rows
IsFirstUneven rows (Some n) = HaveWidth (first_width rows) (take n rows)
    × ((row : RowVec) × ((rest : List RowVec) × ((drop n rows ≡ row ∷ rest) × (vec_len row ≢ first_width rows))))
