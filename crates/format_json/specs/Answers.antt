-- The answers of the reader of values, in the words of the format.
use Rattle.std.specs.Prelude.{◌≡◌, ℕ, suc, ◌≤◌, Bool, true, false, List, [], length, drop, Result, Ok, Err, ⊤}
use Rattle.winnow_stream.specs.declared.needed.Needed.{Needed}
use Rattle.winnow_error.specs.declared.failure.Failure.{Failure}
use Rattle.winnow_error.specs.declared.failure.Failure.TheVariants.{Incomplete, Backtrack, Cut, Refused}
use Rattle.format_json.specs.Language.{after_blanks, ValueAhead}
use Rattle.format_json.specs.SameValues.{SameValue}
use Rattle.format_json.specs.Founds.{HasNone, IsFound}
use Rattle.format_json.specs.Damage.{BreaksOff}
use Rattle.format_json.specs.Begun.{BeginsValue}
use Rattle.format_json.specs.declared.value.Value.{Value}
use Rattle.format_json.specs.declared.found.Found.TheVariants as found
use Rattle.format_json.specs.declared.reading.Reading.{Reading}
use Rattle.format_json.specs.declared.reading.Reading.TheVariants as reading

-- the bytes begin with no value within the limit
abbrev pub NoValueAhead : ℕ → Bool → List ℕ → Type 0
NoValueAhead depth partial bytes =
    (value : Value) (rest : List ℕ) → ¬ (ValueAhead partial depth value bytes rest)

-- the result and the rest: a value with which the bytes begin; or a backtrack, which consumes
-- nothing, if the bytes are blanks and nothing may follow; or a cut, if the bytes begin with no
-- value on any continuation, and a value breaks off at the rest; or more input is needed, if more
-- may follow, and the bytes begin with no value yet, but one is begun; or memory was refused
abbrev pub IsValueAnswer : {E : Type 0} → ℕ → Bool → List ℕ → Result Value (Failure E Needed)
    → List ℕ → Type 0
IsValueAnswer depth partial bytes (Ok value) rest = ValueAhead partial depth value bytes rest
IsValueAnswer depth partial bytes (Err (Backtrack e)) rest =
    (rest ≡ bytes) × (partial ≡ false) × (after_blanks bytes ≡ [])
IsValueAnswer depth partial bytes (Err (Cut e)) rest =
    HasNone (ValueAhead partial depth) partial bytes × BreaksOff partial depth bytes rest
IsValueAnswer depth partial bytes (Err (Incomplete n)) rest =
    (partial ≡ true) × NoValueAhead depth partial bytes × BeginsValue partial depth bytes
IsValueAnswer depth partial bytes (Err (Refused e)) rest = ⊤

-- the answer is the same value, with this rest after it, unless memory was refused
abbrev pub IsValueGiven : {E : Type 0} → ℕ → Result Value (Failure E Needed) → List ℕ → Value
    → List ℕ → Type 0
IsValueGiven depth (Ok given) rest value after =
    SameValue (suc depth) given value × (rest ≡ after)
IsValueGiven depth (Err (Backtrack e)) rest value after = ⊥
IsValueGiven depth (Err (Cut e)) rest value after = ⊥
IsValueGiven depth (Err (Incomplete n)) rest value after = ⊥
IsValueGiven depth (Err (Refused e)) rest value after = ⊤

-- each value within the limit with which the bytes begin is returned, unless memory was refused:
-- none is missed, and no bytes are two values
abbrev pub GivesEachValue : {E : Type 0} → ℕ → Bool → List ℕ → Result Value (Failure E Needed)
    → List ℕ → Type 0
GivesEachValue depth partial bytes result rest = (value : Value) (after : List ℕ)
    → ValueAhead partial depth value bytes after → IsValueGiven depth result rest value after

-- what the bytes are as a value: blanks, after which nothing may follow; a value; one that is
-- begun; or none, no matter what follows, which breaks off after n bytes
abbrev pub IsReading : ℕ → Bool → List ℕ → Reading → Type 0
IsReading depth partial bytes reading.Nothing = (partial ≡ false) × (after_blanks bytes ≡ [])
IsReading depth partial bytes (reading.Whole value n) =
    IsFound (ValueAhead partial depth) partial bytes (found.Whole value n)
IsReading depth partial bytes reading.Begun =
    (partial ≡ true) × NoValueAhead depth partial bytes × BeginsValue partial depth bytes
IsReading depth partial bytes (reading.Damaged n) = (n ≤ length bytes)
    × HasNone (ValueAhead partial depth) partial bytes × BreaksOff partial depth bytes (drop n bytes)
