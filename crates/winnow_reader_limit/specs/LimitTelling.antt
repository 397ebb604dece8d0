-- Which error of its record a record with a limit carries.
use Rattle.std.specs.Prelude.{◌≡◌, ℕ, Bool, List, take, ⊤}
use Rattle.winnow_stream.specs.declared.needed.Needed.{Needed}
use Rattle.winnow_error.specs.declared.failure.Failure.{Failure}
use Rattle.winnow_error.specs.declared.failure.Failure.TheVariants.{Incomplete, Backtrack, Cut, Refused}
use Rattle.winnow_parser.specs.Outcome.{Ahead}
use Rattle.winnow_parser.specs.Errors.{Errors}
use Rattle.winnow_reader.specs.Place.{bytes_at}
use Rattle.winnow_reader_limit.specs.declared.limit.LimitedError.{LimitedError}
use Rattle.winnow_reader_limit.specs.declared.limit.LimitedError.TheVariants.{TooLong, Failed}

-- asked of the first of these bytes, the record fails so
abbrev pub FailsInFirst : {E : Type 0} → ℕ → Errors E (Ahead ℕ) ℕ → ℕ → List ℕ
    → Failure E Needed → Type 0
FailsInFirst greatest errors place bytes failure =
    (more : Bool)
    × ((left : Ahead ℕ) × errors more (bytes_at place (take greatest bytes)) left failure)

-- a failure carries an error of the record; or it says that the record is too long
abbrev pub FirstTold : {E : Type 0} → ℕ → Errors E (Ahead ℕ) ℕ → ℕ → List ℕ
    → Failure (LimitedError E) Needed → Type 0
FirstTold greatest errors place bytes (Backtrack (Failed e)) = FailsInFirst greatest errors place bytes (Backtrack e)
FirstTold greatest errors place bytes (Backtrack TooLong) = ⊥
FirstTold greatest errors place bytes (Cut (Failed e)) = FailsInFirst greatest errors place bytes (Cut e)
FirstTold greatest errors place bytes (Cut TooLong) = ⊤
FirstTold greatest errors place bytes (Incomplete n) = ⊤
FirstTold greatest errors place bytes (Refused r) = ⊤

-- the errors of a record with a limit
abbrev pub LimitErrors : {E : Type 0} → ℕ → Errors E (Ahead ℕ) ℕ
    → Errors (LimitedError E) (Ahead ℕ) ℕ
LimitErrors greatest errors partial a left failure =
    (place : ℕ) × ((bytes : List ℕ)
    × ((a ≡ bytes_at place bytes) × FirstTold greatest errors place bytes failure))
