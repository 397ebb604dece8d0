-- What came of asking a record, and what a reader makes of it. Only contracts of private functions
-- name these.
use Rattle.std.specs.Prelude.{◌≡◌, ◌≢◌, ℕ, ◌+◌, ◌≤◌, ◌<◌, Bool, true, false, not, List, [], length, drop, Result, Ok, Err, ◌⊎◌, ⊤}
use Rattle.winnow_parser.specs.Outcome.{Gives, Fails, Refuses, Meaning}
use Rattle.winnow_reader.specs.declared.asking.Asked.{Asked}
use Rattle.winnow_reader.specs.declared.asking.Asked.TheVariants as asked
use Rattle.winnow_reader.specs.declared.next.Next.{Next}
use Rattle.winnow_reader.specs.declared.next.Next.TheVariants.{Value, NeedsMore, Done}
use Rattle.winnow_reader.specs.declared.next.ReadError.{ReadError}
use Rattle.winnow_reader.specs.declared.next.ReadError.TheVariants.{Failed, TakesNothing, Refused}
use Rattle.winnow_reader.specs.Place.{bytes_at}
use Rattle.winnow_reader.specs.State.{ReaderState, taken_by, waiting_for}
use Rattle.winnow_reader.specs.Answering.{StopsBy, NeedsLength}

-- what the record answers of these bytes at this place
abbrev pub IsAnswer : {O E : Type 0} → Meaning O ℕ → ℕ → List ℕ → Bool → Asked O E → Type 0
IsAnswer means place ahead ended (asked.Value x n) = (0 < n) × (n ≤ length ahead)
    × means (not ended) (bytes_at place ahead) (Gives x (bytes_at (place + n) (drop n ahead)))
IsAnswer means place ahead ended (asked.Waits w) = (ended ≡ false) × NeedsLength means place ahead w
IsAnswer means place ahead ended asked.Done = ⊥
IsAnswer means place ahead ended (asked.Failed e there cut) =
    (rest : List ℕ) × StopsBy means cut (not ended) (bytes_at place ahead) (bytes_at there rest)
IsAnswer {O} means place ahead ended asked.Idle =
    (x : O) × means (not ended) (bytes_at place ahead) (Gives x (bytes_at place ahead))
IsAnswer means place ahead ended (asked.Refused r) = means (not ended) (bytes_at place ahead) (Fails Refuses)

-- something remains at the end; before it, as many bytes are ahead as are wanted
abbrev pub MayAsk : {R : Type 0} → ReaderState R → Type 0
MayAsk f = (f.ended ≡ true → f.ahead ≢ []) × (f.ended ≡ false → f.wanted ≤ length f.ahead)

module _ {R O E : Type 0} where
  -- what is known without asking: nothing remains, or what is ahead is too short
  abbrev pub IsKnown : ReaderState R → Asked O E → Type 0
  IsKnown f (asked.Value x n) = ⊥
  IsKnown f (asked.Waits w) = (f.ended ≡ false) × (w ≡ f.wanted) × (length f.ahead < f.wanted)
  IsKnown f asked.Done = (f.ended ≡ true) × (f.ahead ≡ [])
  IsKnown f (asked.Failed e there cut) = ⊥
  IsKnown f asked.Idle = ⊥
  IsKnown f (asked.Refused r) = ⊥

  -- what is known without asking, or the record's answer, where it may be asked
  abbrev pub IsAsked : Meaning O ℕ → ReaderState R → Asked O E → Type 0
  IsAsked means f answer = IsKnown f answer
      ⊎ (MayAsk f × IsAnswer means f.place f.ahead f.ended answer)

  -- what a value took was ahead
  abbrev pub IsWithin : ReaderState R → Asked O E → Type 0
  IsWithin f (asked.Value x n) = n ≤ length f.ahead
  IsWithin f (asked.Waits w) = ⊤
  IsWithin f asked.Done = ⊤
  IsWithin f (asked.Failed e there cut) = ⊤
  IsWithin f asked.Idle = ⊤
  IsWithin f (asked.Refused r) = ⊤

  -- the reader once its record has answered
  abbrev pub settled : ReaderState R → Asked O E → ReaderState R
  settled f (asked.Value x n) = taken_by f n
  settled f (asked.Waits w) = waiting_for f w
  settled f asked.Done = f
  settled f (asked.Failed e there cut) = f
  settled f asked.Idle = f
  settled f (asked.Refused r) = f

-- what the reader hands out then
abbrev pub answer_of : {O E : Type 0} → ℕ → Asked O E → Result (Next O) (ReadError E)
answer_of place (asked.Value x n) = Ok (Value x)
answer_of place (asked.Waits w) = Ok NeedsMore
answer_of place asked.Done = Ok Done
answer_of place (asked.Failed e there cut) = Err (Failed e there cut)
answer_of place asked.Idle = Err (TakesNothing place)
answer_of place (asked.Refused r) = Err (Refused r)
