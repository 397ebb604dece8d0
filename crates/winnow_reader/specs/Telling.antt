-- Which error a failure of a record carries, and of a reader.
use Rattle.std.specs.Prelude.{◌≡◌, ℕ, Bool, true, false, not, List, Result, Ok, Err, ⊤}
use Rattle.std.specs.Borrow.{Bor}
use Rattle.winnow_stream.specs.declared.needed.Needed.{Needed}
use Rattle.winnow_stream.specs.declared.stream.Rest.{Ghosts}
use Rattle.winnow_error.specs.declared.failure.Failure.{Failure}
use Rattle.winnow_error.specs.declared.failure.Failure.TheVariants.{Backtrack, Cut}
use Rattle.winnow_parser.specs.Outcome.{Ahead}
use Rattle.winnow_parser.specs.Errors.{Errors}
use Rattle.winnow_wrap.specs.declared.located.LocatingSlice.{LocatingSlice}
use Rattle.winnow_wrap.specs.declared.partial.Partial.{Partial}
use Rattle.winnow_reader.specs.declared.asking.Asked.{Asked}
use Rattle.winnow_reader.specs.declared.asking.Asked.TheVariants as asked
use Rattle.winnow_reader.specs.declared.next.Next.{Next}
use Rattle.winnow_reader.specs.declared.next.ReadError.{ReadError}
use Rattle.winnow_reader.specs.declared.next.ReadError.TheVariants.{Failed, TakesNothing, Refused}
use Rattle.winnow_reader.specs.Place.{bytes_at, stands}
use Rattle.winnow_reader.specs.State.{ReaderState}

-- the errors of a parser over the stream that a record is given, as those of a record
abbrev pub OfParser : {E C : Type 0} {i : Ghosts (Bor (List ℕ))} {c : Ghosts C}
    → Errors E (Partial (LocatingSlice (Bor (List ℕ)) C i c)) ℕ → Errors E (Ahead ℕ) ℕ
OfParser {C = C} {i = i} {c = c} errors partial a left failure =
    (s : Partial (LocatingSlice (Bor (List ℕ)) C i c))
    × ((stands s ≡ left) × errors partial a s failure)

-- the failure with an error that cuts, or backtracks
abbrev pub failure_with : {E : Type 0} → E → Bool → Failure E Needed
failure_with e true = Cut e
failure_with e false = Backtrack e

-- a failure to read a record at a place carries an error of the record, of these bytes ahead
abbrev pub AsksError : {O E : Type 0} → Errors E (Ahead ℕ) ℕ → ℕ → List ℕ → Bool → Asked O E
    → Type 0
AsksError errors place ahead ended (asked.Value x n) = ⊤
AsksError errors place ahead ended (asked.Waits w) = ⊤
AsksError errors place ahead ended asked.Done = ⊤
AsksError errors place ahead ended (asked.Failed e there cut) =
    (rest : List ℕ)
    × errors (not ended) (bytes_at place ahead) (bytes_at there rest) (failure_with e cut)
AsksError errors place ahead ended asked.Idle = ⊤
AsksError errors place ahead ended (asked.Refused r) = ⊤

-- a failure of a reader carries an error of its record, of the bytes that were ahead, where it
-- failed
abbrev pub TellsError : {R O E : Type 0} → (R → Errors E (Ahead ℕ) ℕ) → ReaderState R
    → Result (Next O) (ReadError E) → Type 0
TellsError errors old (Ok next) = ⊤
TellsError errors old (Err (Failed e place cut)) = (rest : List ℕ)
    × errors old.parser (not old.ended) (bytes_at old.place old.ahead) (bytes_at place rest)
    (failure_with e cut)
TellsError errors old (Err (TakesNothing place)) = ⊤
TellsError errors old (Err (Refused r)) = ⊤
