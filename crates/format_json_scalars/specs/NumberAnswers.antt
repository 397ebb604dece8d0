-- The answers of the reader of numbers, in the words of the format.
use Rattle.std.specs.Prelude.{◌≡◌, ℕ, ◌≤◌, Bool, true, List, ◌++◌, length, Result, Ok, Err, ⊤}
use Rattle.winnow_stream.specs.declared.needed.Needed.{Needed}
use Rattle.winnow_error.specs.declared.failure.Failure.{Failure}
use Rattle.winnow_error.specs.declared.failure.Failure.TheVariants.{Incomplete, Backtrack, Cut, Refused}
use Rattle.format_lemmas.specs.Bytes.{Each, EndsRun}
use Rattle.format_json_scalars.specs.Numbers.{IsNumber, is_number_byte}
use Rattle.format_json_scalars.specs.Meanings.{IsNumberOf}
use Rattle.format_json_scalars.specs.declared.numbers.Number.{Number}

-- the bytes begin with this text, which is a number and ends before the rest
abbrev pub NumberAhead : Bool → List ℕ → List ℕ → List ℕ → Type 0
NumberAhead partial bytes text rest = (bytes ≡ text ++ rest) × IsNumber text × EndsRun is_number_byte partial rest

-- the bytes begin with this number, and the rest follows, in which it does not go on
abbrev pub NumberHere : Bool → Number → List ℕ → List ℕ → Type 0
NumberHere partial number bytes rest =
    (text : List ℕ) × (NumberAhead partial bytes text rest × IsNumberOf text number)

-- the result and the rest: a number; or a backtrack, which consumes nothing, if no byte may follow
-- or some byte is none of a number; or more input is needed, if more may follow and all bytes may
-- be those of a number; or memory was refused
abbrev pub IsNumberAnswer : {E : Type 0} → Bool → List ℕ → Result Number (Failure E Needed)
    → List ℕ → Type 0
IsNumberAnswer partial bytes (Ok number) rest =
    (text : List ℕ) × (NumberAhead partial bytes text rest × IsNumberOf text number)
IsNumberAnswer partial bytes (Err (Backtrack e)) rest =
    (rest ≡ bytes) × (partial ≡ true → ¬ (Each is_number_byte bytes))
IsNumberAnswer partial bytes (Err (Cut e)) rest = ⊥
IsNumberAnswer partial bytes (Err (Incomplete n)) rest = (partial ≡ true) × Each is_number_byte bytes
IsNumberAnswer partial bytes (Err (Refused e)) rest = ⊤

-- no number with which the bytes begin is longer
abbrev pub IsLongest : List ℕ → Number → Type 0
IsLongest bytes number = (text rest : List ℕ) → bytes ≡ text ++ rest → IsNumber text
    → length text ≤ length number.text.items

-- the answer is the number with this text, with this rest after it, unless memory was refused
abbrev pub IsNumberGiven : {E : Type 0} → Result Number (Failure E Needed) → List ℕ → List ℕ
    → List ℕ → Type 0
IsNumberGiven (Ok number) rest text after = (number.text.items ≡ text) × (rest ≡ after)
IsNumberGiven (Err (Backtrack e)) rest text after = ⊥
IsNumberGiven (Err (Cut e)) rest text after = ⊥
IsNumberGiven (Err (Incomplete n)) rest text after = ⊥
IsNumberGiven (Err (Refused e)) rest text after = ⊤

-- each number with which the bytes begin is returned, unless memory was refused: none is missed,
-- and no bytes are two numbers
abbrev pub GivesEachNumber : {E : Type 0} → Bool → List ℕ → Result Number (Failure E Needed)
    → List ℕ → Type 0
GivesEachNumber partial bytes result rest = (text after : List ℕ) → NumberAhead partial bytes text after
    → IsNumberGiven result rest text after
