-- What the writer of values appends, part by part.
use Rattle.std.specs.Prelude.{◌≡◌, ℕ, Bool, List, [], ◌∷◌, ◌++◌, map, Result, Ok, Err, ⊤}
use Rattle.std.specs.declared.string.String.{String}
use Rattle.std.specs.declared.alloc.Global.{Global}
use Rattle.format_lemmas.specs.Bytes.{EndsRun}
use Rattle.format_json_scalars.specs.Numbers.{is_number_byte}
use Rattle.format_json_scalars.specs.Meanings.{IsWritten}
use Rattle.format_json.specs.Language.{MemberAhead, Bracketed, Nested, ValueAhead}
use Rattle.format_json.specs.Writing.{listed, written, written_member}
use Rattle.format_json_scalars.specs.declared.numbers.Number.{Number}
use Rattle.format_json.specs.declared.value.Value.{Value}
use Rattle.format_json.specs.declared.writing.Unwritten.{Unwritten}
use Rattle.format_json.specs.declared.writing.Unwritten.TheVariants.{NoNumber, TooDeep, Refused}

-- which bytes begin with an array of these elements, and the text of one
abbrev pub ArrayHere : Bool → ℕ → List Value → List ℕ → List ℕ → Type 0
ArrayHere partial depth = Bracketed (Nested partial depth) 93 91

abbrev pub array_text : List Value → List ℕ
array_text values = 91 ∷ (listed (map written values) ++ 93 ∷ [])

-- the bytes begin with a member
abbrev pub MemberHere : Bool → ℕ → String Global × Value → List ℕ → List ℕ → Type 0
MemberHere partial depth = MemberAhead (ValueAhead partial depth)

abbrev pub member_text : String Global × Value → List ℕ
member_text member = written_member (member.0, written member.1)

-- the bytes begin with an object
abbrev pub ObjectHere : Bool → ℕ → List (String Global × Value) → List ℕ → List ℕ → Type 0
ObjectHere partial depth = Bracketed (MemberAhead (Nested partial depth)) 125 123

abbrev pub object_text : List (String Global × Value) → List ℕ
object_text members = 123 ∷ (listed (map member_text members) ++ 125 ∷ [])

-- where a relation says which bytes begin with a thing, within a limit on depth
module _ {T : Type 0} (stands : Bool → ℕ → T → List ℕ → List ℕ → Type 0) where
  -- this text of the thing begins with it, before each continuation that does not continue a number
  abbrev pub Stands : (T → List ℕ) → ℕ → T → Type 0
  Stands text depth thing = (partial : Bool) (rest : List ℕ) → EndsRun is_number_byte partial rest
      → stands partial depth thing (text thing ++ rest) rest

  -- no bytes begin with the thing
  abbrev pub Never : ℕ → T → Type 0
  Never depth thing = (partial : Bool) (bytes rest : List ℕ) → ¬ (stands partial depth thing bytes rest)

  -- the text is appended, and begins with the thing; or no bytes begin with the thing within the
  -- limit, or within any limit; or memory was refused
  abbrev pub IsAppended : (T → List ℕ) → ℕ → T → List ℕ → List ℕ → Result (Unit {0}) Unwritten
      → Type 0
  IsAppended text depth thing old new (Ok done) =
      (new ≡ old ++ text thing) × Stands text depth thing
  IsAppended text depth thing old new (Err TooDeep) = Never depth thing
  IsAppended text depth thing old new (Err NoNumber) = (limit : ℕ) → Never limit thing
  IsAppended text depth thing old new (Err (Refused e)) = ⊤

-- the text of a number is appended, if it is one and has the number's integer
abbrev pub IsNumberAppended : Number → List ℕ → List ℕ → Result (Unit {0}) Unwritten → Type 0
IsNumberAppended number old new (Ok done) = (new ≡ old ++ number.text.items) × IsWritten number
IsNumberAppended number old new (Err TooDeep) = ⊥
IsNumberAppended number old new (Err NoNumber) = ¬ (IsWritten number)
IsNumberAppended number old new (Err (Refused e)) = ⊤
