-- Records that a reader reads of bytes that come in pieces.
use Rattle.std.specs.Prelude.{◌≡◌, ℕ, ◌+◌, false, List, ◌++◌, length}
use Rattle.winnow_reader.specs.Place.{IsByteSlice}
use Rattle.winnow_reader.specs.State.{ReaderState}
use Rattle.winnow_reader.specs.Reading.{MayFollow}
use Rattle.winnow_parser.specs.Outcome.{Meaning}
use Rattle.format_csv.specs.Meanings.{OneRow}
use Rattle.format_csv.specs.Widths.{RowVec}
use Rattle.format_csv.specs.Tables.{rows_in, AreRecords, HasNoRecord, IsDamagedAt}

-- what a record means to a reader: what `Row` means where the stream's slices are bytes
abbrev pub RowInPieces : Meaning RowVec ℕ
RowInPieces = OneRow IsByteSlice (λ slice. slice.now) ⊥ ⊥

module _ {R : Type 0} where
  -- no matter what follows, the input and that are these records, one after the other, and then
  -- what is ahead of the reader and what follows
  abbrev pub BeginsWith : ReaderState R → List ℕ → List RowVec → Type 0
  BeginsWith f input rows = (more : List ℕ) → MayFollow f.ended more false
      → AreRecords (input ++ more) (rows_in rows) (f.ahead ++ more)

  -- on each continuation, the bytes ahead of the reader begin with no record, and one is malformed
  -- at this place of the joined input
  abbrev pub FindsDamage : ReaderState R → ℕ → Type 0
  FindsDamage f place = (rest : List ℕ) × ((f.place + length f.ahead ≡ place + length rest)
      × ((more : List ℕ) → MayFollow f.ended more false
      → HasNoRecord (f.ahead ++ more) × IsDamagedAt (f.ahead ++ more) (rest ++ more)))
