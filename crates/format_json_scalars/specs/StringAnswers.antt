-- The answers of the reader of strings, in the words of the format.
use Rattle.std.specs.Prelude.{◌≡◌, ◌≢◌, ℕ, Bool, true, false, List, [], ◌∷◌, ◌++◌, Result, Ok, Err, ⊤, encode_utf8_all}
use Rattle.std.specs.String.{string_bytes}
use Rattle.std.specs.declared.string.String.{String}
use Rattle.std.specs.declared.alloc.Global.{Global}
use Rattle.winnow_stream.specs.declared.needed.Needed.{Needed}
use Rattle.winnow_error.specs.declared.failure.Failure.{Failure}
use Rattle.winnow_error.specs.declared.failure.Failure.TheVariants.{Incomplete, Backtrack, Cut, Refused}
use Rattle.format_lemmas.specs.Bytes.{StartsWith}
use Rattle.format_json_scalars.specs.Strings.{SpellsChar, SpellsChars, StringAhead}

-- the value has these characters
abbrev pub HasChars : String Global → List ℕ → Type 0
HasChars value cs = string_bytes value ≡ encode_utf8_all cs

-- the bytes begin with a string of this value, and the rest follows
abbrev pub StringHere : String Global → List ℕ → List ℕ → Type 0
StringHere value bytes rest = (cs : List ℕ) × (StringAhead bytes cs rest × HasChars value cs)

-- the bytes begin with the spelling of a character
abbrev pub BeginsChar : List ℕ → Type 0
BeginsChar bytes = (c : ℕ) × ((front : List ℕ) × ((rest : List ℕ)
    × ((bytes ≡ front ++ rest) × SpellsChar c front)))

-- the rest begins neither with a character nor with a closing quote; if more may follow, on any
-- continuation
abbrev pub IsWrong : Bool → List ℕ → Type 0
IsWrong partial rest = ¬ (StartsWith 34 rest)
    × ((more : List ℕ) → (partial ≡ false → more ≡ []) → ¬ (BeginsChar (rest ++ more)))

-- a string is malformed at the rest, which follows its quote and some characters, and begins
-- neither with one more character nor with the closing quote
abbrev pub IsDamagedAt : Bool → List ℕ → List ℕ → Type 0
IsDamagedAt partial bytes rest = (text : List ℕ) × ((cs : List ℕ)
    × ((bytes ≡ 34 ∷ (text ++ rest)) × SpellsChars cs text × IsWrong partial rest))

-- more input can make a string of the bytes
abbrev pub IsBegun : List ℕ → Type 0
IsBegun bytes = (more : List ℕ) × ((cs : List ℕ) × StringAhead (bytes ++ more) cs [])

-- the result and the rest: a string; or a backtrack, which consumes nothing, if the bytes begin
-- with no quote; or a cut, at the place at which the string is malformed; or more input is needed,
-- if more may follow and can make a string of the bytes; or memory was refused
abbrev pub IsStringAnswer : {E : Type 0} → Bool → List ℕ → Result (String Global) (Failure E Needed)
    → List ℕ → Type 0
IsStringAnswer partial bytes (Ok value) rest =
    (cs : List ℕ) × (StringAhead bytes cs rest × HasChars value cs)
IsStringAnswer partial bytes (Err (Backtrack e)) rest =
    (rest ≡ bytes) × ¬ (StartsWith 34 bytes) × (partial ≡ true → bytes ≢ [])
IsStringAnswer partial bytes (Err (Cut e)) rest = IsDamagedAt partial bytes rest
IsStringAnswer partial bytes (Err (Incomplete n)) rest = (partial ≡ true) × IsBegun bytes
IsStringAnswer partial bytes (Err (Refused e)) rest = ⊤

-- the answer is the string of these characters, with this rest after it, unless memory was refused
abbrev pub IsStringGiven : {E : Type 0} → Result (String Global) (Failure E Needed) → List ℕ
    → List ℕ → List ℕ → Type 0
IsStringGiven (Ok value) rest cs after = HasChars value cs × (rest ≡ after)
IsStringGiven (Err (Backtrack e)) rest cs after = ⊥
IsStringGiven (Err (Cut e)) rest cs after = ⊥
IsStringGiven (Err (Incomplete n)) rest cs after = ⊥
IsStringGiven (Err (Refused e)) rest cs after = ⊤

-- each string with which the bytes begin is returned, unless memory was refused: none is missed,
-- and no bytes are two strings
abbrev pub GivesEachString : {E : Type 0} → List ℕ → Result (String Global) (Failure E Needed)
    → List ℕ → Type 0
GivesEachString bytes result rest = (cs after : List ℕ) → StringAhead bytes cs after
    → IsStringGiven result rest cs after
