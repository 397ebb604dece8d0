-- Tables: records one after the other, and where one is damaged.
use Rattle.std.specs.Prelude.{◌≡◌, ℕ, ◌-◌, false, List, [], ◌∷◌, length, map, ◌⊎◌}
use Rattle.std.specs.declared.vec.Vec.{Vec}
use Rattle.std.specs.declared.alloc.Global.{Global}
use Rattle.format_csv.specs.Language.{RecordAhead}
use Rattle.format_csv.specs.Answers.{values_of}
use Rattle.format_csv.specs.Damage.{BreaksOff, IsUnclosed}
use Rattle.format_csv.specs.declared.reading.Damage.{Damage}

-- the values of the fields of each record
abbrev pub rows_in : List (Vec (Vec ℕ Global) Global) → List (List (List ℕ))
rows_in rows = map values_of rows

-- the bytes are these records, one after the other, and a rest
abbrev pub AreRecords : List ℕ → List (List (List ℕ)) → List ℕ → Type 0
AreRecords bytes [] rest = bytes ≡ rest
AreRecords bytes (row ∷ rows) rest =
    (more : List ℕ) × (RecordAhead false bytes row more × AreRecords more rows rest)

-- the bytes begin with no record
abbrev pub HasNoRecord : List ℕ → Type 0
HasNoRecord bytes = (row : List (List ℕ)) (rest : List ℕ) → ¬ (RecordAhead false bytes row rest)

-- a record breaks off at the rest, or its closing quote is missing at the end
abbrev pub IsDamagedAt : List ℕ → List ℕ → Type 0
IsDamagedAt bytes rest = BreaksOff false bytes rest ⊎ (IsUnclosed bytes × (rest ≡ []))

-- after as many records as the damage says, the rest begins with no record, and one breaks off at
-- its offset
abbrev pub IsDamage : List ℕ → Damage → Type 0
IsDamage bytes damage = (rows : List (List (List ℕ))) × ((begun : List ℕ) × ((rest : List ℕ)
    × (AreRecords bytes rows begun × (length rows ≡ damage.rows) × HasNoRecord begun
    × IsDamagedAt begun rest × (damage.offset ≡ length bytes - length rest))))
