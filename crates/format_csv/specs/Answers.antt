-- The answers of the reader of records, in the words of the format.
use Rattle.std.specs.Prelude.{◌≡◌, ℕ, Bool, true, false, List, [], ◌++◌, map, Result, Ok, Err, ◌⊎◌, ⊤}
use Rattle.std.specs.declared.vec.Vec.{Vec}
use Rattle.std.specs.declared.alloc.Global.{Global}
use Rattle.winnow_stream.specs.declared.needed.Needed.{Needed}
use Rattle.winnow_error.specs.declared.failure.Failure.{Failure}
use Rattle.winnow_error.specs.declared.failure.Failure.TheVariants.{Incomplete, Backtrack, Cut, Refused}
use Rattle.format_csv.specs.Language.{RecordAhead}
use Rattle.format_csv.specs.Damage.{BreaksOff, IsUnclosed}

-- the values of the fields of a record
abbrev pub values_of : Vec (Vec ℕ Global) Global → List (List ℕ)
values_of row = map (λ field. field.items) row.items

-- more input can make a record of the bytes: with some after them, they are a record and its end
abbrev pub IsBegun : List ℕ → Type 0
IsBegun bytes = (more : List ℕ) × ((values : List (List ℕ)) × RecordAhead true (bytes ++ more) values [])

-- the answer and what remains: a record; or a backtrack, where the input has ended; or a cut, where
-- a record breaks off or a closing quote is missing, and no input that may follow mends it; or more
-- input is needed, where more may follow and can make a record of the bytes; or memory was refused
abbrev pub IsAnswer : {E : Type 0} → Bool → List ℕ
    → Result (Vec (Vec ℕ Global) Global) (Failure E Needed) → List ℕ → Type 0
IsAnswer partial bytes (Ok row) rest = RecordAhead partial bytes (values_of row) rest
IsAnswer partial bytes (Err (Backtrack e)) rest = (bytes ≡ []) × (rest ≡ []) × (partial ≡ false)
IsAnswer partial bytes (Err (Cut e)) rest =
    (BreaksOff partial bytes rest ⊎ (IsUnclosed bytes × (rest ≡ []) × (partial ≡ false)))
    × (partial ≡ true → ¬ (IsBegun bytes))
IsAnswer partial bytes (Err (Incomplete n)) rest = (partial ≡ true) × IsBegun bytes
IsAnswer partial bytes (Err (Refused e)) rest = ⊤

-- the answer is these values, with this rest after them, unless memory was refused
abbrev pub IsGiven : {E : Type 0} → Result (Vec (Vec ℕ Global) Global) (Failure E Needed) → List ℕ
    → List (List ℕ) → List ℕ → Type 0
IsGiven (Ok row) rest values after = (values_of row ≡ values) × (rest ≡ after)
IsGiven (Err (Backtrack e)) rest values after = ⊥
IsGiven (Err (Cut e)) rest values after = ⊥
IsGiven (Err (Incomplete n)) rest values after = ⊥
IsGiven (Err (Refused e)) rest values after = ⊤

-- each record with which the bytes begin is returned, unless memory was refused: none is missed,
-- and no bytes are two records
abbrev pub GivesEach : {E : Type 0} → Bool → List ℕ
    → Result (Vec (Vec ℕ Global) Global) (Failure E Needed) → List ℕ → Type 0
GivesEach partial bytes result rest = (values : List (List ℕ)) (after : List ℕ)
    → RecordAhead partial bytes values after → IsGiven result rest values after
