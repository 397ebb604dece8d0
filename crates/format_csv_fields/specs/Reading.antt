-- The fields that a reader has read of bytes in pieces, and the result of a call.
use Rattle.std.specs.Prelude.{◌≡◌, ℕ, ◌+◌, ◌≤◌, ◌<◌, Bool, true, false, List, [], ◌∷◌, ◌++◌, length, Result, Ok, Err, ⊤}
use Rattle.winnow_reader.specs.Reading.{MayFollow}
use Rattle.winnow_reader.specs.State.{taken_by, fed_of}
use Rattle.winnow_reader.specs.SameValues.{IsThrough}
use Rattle.winnow_reader.specs.declared.next.Next.{Next}
use Rattle.winnow_reader.specs.declared.next.Next.TheVariants as next
use Rattle.format_csv.specs.Fields.{SpellsField}
use Rattle.format_csv.specs.Tables.{AreRecords, HasNoRecord, IsDamagedAt}
use Rattle.format_csv_fields.specs.FieldAhead.{BeginsJust, IsUnfinished, IsDamagedBefore, IsTooLong}
use Rattle.format_csv_fields.specs.FieldState.{FieldState, lends_nothing}
use Rattle.format_csv_fields.specs.declared.after.Ending.{Ending}
use Rattle.format_csv_fields.specs.declared.after.Ending.TheVariants as ending
use Rattle.format_csv_fields.specs.declared.field_reader.FieldError.{FieldError}
use Rattle.format_csv_fields.specs.declared.field_reader.FieldError.TheVariants as error

-- the bytes are these fields, each with a comma after it, and a rest
abbrev pub AreFields : List ℕ → List (List ℕ) → List ℕ → Type 0
AreFields bytes [] rest = bytes ≡ rest
AreFields bytes (value ∷ values) rest = (text : List ℕ) × ((more : List ℕ)
    × ((bytes ≡ text ++ 44 ∷ more) × SpellsField value text × AreFields more values rest))

-- the bytes are these records, one after the other, then these fields of the next record, and the
-- rest
abbrev pub AreRead : List ℕ → List (List (List ℕ)) → List (List ℕ) → List ℕ → Type 0
AreRead bytes rows fields rest =
    (begun : List ℕ) × (AreRecords bytes rows begun × AreFields begun fields rest)

-- a comma came before the next field, if fields of its record were read
abbrev pub IsWithin : Bool → List (List ℕ) → Type 0
IsWithin within [] = within ≡ false
IsWithin within (field ∷ fields) = within ≡ true

-- a reader has read these records of this joined input, and then these fields of the next record:
-- for each continuation the input begins with them, and what remains of it comes after them
pub record HasRead (f : FieldState) (input : List ℕ) (rows : List (List (List ℕ))) (fields : List (List ℕ)) : Type 0 where
  pub reads : (more : List ℕ) → MayFollow f.state.ended more false
      → AreRead (input ++ more) rows fields (f.state.ahead ++ more)
  pub fed : fed_of f.state ≡ length input
  pub within : IsWithin f.within fields

-- the new reader has read what the old one had, and one more piece belongs to the input
abbrev pub ReadsAlso : FieldState → List ℕ → FieldState → Type 0
ReadsAlso old piece new = (input : List ℕ) (rows : List (List (List ℕ))) (fields : List (List ℕ))
    → HasRead old input rows fields → HasRead new (input ++ piece) rows fields

-- the new reader has read what the old one had, of the same input
abbrev pub ReadsThrough : FieldState → FieldState → Type 0
ReadsThrough old new = (input : List ℕ) (rows : List (List (List ℕ))) (fields : List (List ℕ))
    → HasRead old input rows fields → HasRead new input rows fields

-- the records after a call: one more if it returns the last field of a record
abbrev pub rows_after : List (List (List ℕ)) → List (List ℕ) → List ℕ
    → Result (Next Ending) FieldError → List (List (List ℕ))
rows_after rows fields field (Ok (next.Value ending.Comma)) = rows
rows_after rows fields field (Ok (next.Value ending.Record)) = rows ++ (fields ++ field ∷ []) ∷ []
rows_after rows fields field (Ok next.NeedsMore) = rows
rows_after rows fields field (Ok next.Done) = rows
rows_after rows fields field (Err e) = rows

-- the fields of the next record after a call: one more if it returns a field that is not the last,
-- and none if it returns the last
abbrev pub fields_after : List (List ℕ) → List ℕ → Result (Next Ending) FieldError → List (List ℕ)
fields_after fields field (Ok (next.Value ending.Comma)) = fields ++ field ∷ []
fields_after fields field (Ok (next.Value ending.Record)) = []
fields_after fields field (Ok next.NeedsMore) = fields
fields_after fields field (Ok next.Done) = fields
fields_after fields field (Err e) = fields

-- the new reader has read what the old one had, then the field that the call has read
abbrev pub ReadsOn : FieldState → Result (Next Ending) FieldError → FieldState → Type 0
ReadsOn old result new = (input : List ℕ) (rows : List (List (List ℕ))) (fields : List (List ℕ))
    → HasRead old input rows fields
    → HasRead new input (rows_after rows fields new.field result) (fields_after fields new.field result)

-- a comma ends the field
abbrev pub is_comma : Ending → Bool
is_comma ending.Comma = true
is_comma ending.Record = false

-- the value that is lent is that of the field ahead, whose text is within the limit; the reader
-- consumes n bytes, which are not none unless a comma came before
pub record TakesField (old : FieldState) (ending : Ending) (new : FieldState) : Type 0 where
  pub text : List ℕ
  pub n : ℕ
  pub some : old.within ≡ false → 0 < n
  pub bound : n ≤ length old.state.ahead
  pub short : length text ≤ old.limit
  pub begins : BeginsJust old.state.ended old.state.ahead text new.field ending new.state.ahead
  pub state : new.state ≡ taken_by old.state n
  pub within : new.within ≡ is_comma ending
  pub limit : new.limit ≡ old.limit

-- the field ahead is malformed at this place of the joined input
abbrev pub FindsDamage : FieldState → ℕ → Type 0
FindsDamage f place = (rest : List ℕ)
    × ((fed_of f.state ≡ place + length rest) × IsDamagedBefore f.state.ended f.state.ahead rest)

-- the result of a call, and the reader after it. With a value the field ahead is consumed, and
-- lent. Otherwise nothing is lent and the reader is unchanged: the field ahead is unfinished and
-- within the limit; the input is at its end, and no comma came before; the field is malformed at
-- the place; it is longer than the limit, and the place is that of the first byte that is too
-- much; or memory was refused
abbrev pub ReadsNext : FieldState → Result (Next Ending) FieldError → FieldState → Type 0
ReadsNext old (Ok (next.Value ending)) new = TakesField old ending new
ReadsNext old (Ok next.NeedsMore) new = IsUnfinished old.state.ended old.state.ahead
    × (length old.state.ahead ≤ old.limit + 1) × (new ≡ lends_nothing old)
ReadsNext old (Ok next.Done) new =
    IsThrough old.state × (old.within ≡ false) × (new ≡ lends_nothing old)
ReadsNext old (Err (error.Damaged place)) new = FindsDamage old place × (new ≡ lends_nothing old)
ReadsNext old (Err (error.TooLong place)) new =
    IsTooLong old.state.ended old.limit old.state.ahead × (place ≡ old.state.place + old.limit)
    × (new ≡ lends_nothing old)
ReadsNext old (Err (error.Refused e)) new = new ≡ lends_nothing old

-- if a call says that a field is damaged at a place, no record begins where the record of the field
-- does, and it is malformed at that place, with each continuation
abbrev pub TellsDamage : FieldState → Result (Next Ending) FieldError → Type 0
TellsDamage old (Ok x) = ⊤
TellsDamage old (Err (error.Damaged place)) = (input : List ℕ) (rows : List (List (List ℕ)))
    (fields : List (List ℕ)) → HasRead old input rows fields
    → (rest : List ℕ) × ((length input ≡ place + length rest)
    × ((more : List ℕ) → MayFollow old.state.ended more false
    → (begun : List ℕ) × (AreRecords (input ++ more) rows begun × HasNoRecord begun
    × IsDamagedAt begun (rest ++ more))))
TellsDamage old (Err (error.TooLong place)) = ⊤
TellsDamage old (Err (error.Refused e)) = ⊤
