-- What a reader answers, and when.
use Rattle.std.specs.Prelude.{◌≡◌, ℕ, ◌+◌, ◌-◌, ◌^◌, ◌≤◌, ◌<◌, min, Bool, true, false, not, List, ◌++◌, length, Result, Ok, Err, ◌⊎◌, ◌↔◌}
use Rattle.std.proofs.Common.{inl, inr}
use Rattle.winnow_stream.specs.declared.needed.Needed.{Needed}
use Rattle.winnow_parser.specs.Outcome.{Ahead, Gives, Fails, Backtracks, Cuts, Needs, Refuses, Meaning}
use Rattle.winnow_reader.specs.declared.next.Next.{Next}
use Rattle.winnow_reader.specs.declared.next.Next.TheVariants.{Value, NeedsMore, Done}
use Rattle.winnow_reader.specs.declared.next.ReadError.{ReadError}
use Rattle.winnow_reader.specs.declared.next.ReadError.TheVariants.{Failed, TakesNothing, Refused}
use Rattle.winnow_reader.specs.Place.{bytes_at}
use Rattle.winnow_reader.specs.Wanted.{size_of}
use Rattle.winnow_reader.specs.State.{ReaderState, taken_by, waiting_for}
use Rattle.winnow_reader.specs.Reading.{MayFollow, HasRead, Lacks}
use Rattle.winnow_reader.specs.SameValues.{IsThrough}

-- there the parser fails, from a, and this is left
abbrev pub StopsAt : {O : Type 0} → Meaning O ℕ → Bool → Ahead ℕ → Ahead ℕ → Type 0
StopsAt means partial a b = means partial a (Fails (Backtracks b)) ⊎ means partial a (Fails (Cuts b))

-- there the parser fails, from a, and this is left: it cuts, or it backtracks
abbrev pub StopsBy : {O : Type 0} → Meaning O ℕ → Bool → Bool → Ahead ℕ → Ahead ℕ → Type 0
StopsBy means true partial a b = means partial a (Fails (Cuts b))
StopsBy means false partial a b = means partial a (Fails (Backtracks b))

-- of these bytes at a place, to which more might come, the parser needs more, and with as many more
-- they are n bytes, or the greatest length where those are too many
abbrev pub NeedsLength : {O : Type 0} → Meaning O ℕ → ℕ → List ℕ → ℕ → Type 0
NeedsLength means place bytes n = (need : Needed)
    × (means true (bytes_at place bytes) (Fails (Needs need)) × (n ≡ min (length bytes + size_of need) (2 ^ 64 - 1)))

module _ {R O : Type 0} (means : R → Meaning O ℕ) where
  -- no matter what follows, the parser fails there
  abbrev pub FailsAt : ReaderState R → ℕ → Type 0
  FailsAt f place = (rest : List ℕ) × ((more : List ℕ) (partial : Bool) → MayFollow f.ended more partial
      → StopsAt (means f.parser) partial (bytes_at f.place (f.ahead ++ more)) (bytes_at place (rest ++ more)))

  -- no matter what follows, the parser fails there: it cuts, or it backtracks
  abbrev pub FailsBy : ReaderState R → Bool → ℕ → Type 0
  FailsBy f cut place = (rest : List ℕ) × ((more : List ℕ) (partial : Bool) → MayFollow f.ended more partial
      → StopsBy (means f.parser) cut partial (bytes_at f.place (f.ahead ++ more)) (bytes_at place (rest ++ more)))

  stops-at : (cut partial : Bool) (r : R) (a b : Ahead ℕ) → StopsBy (means r) cut partial a b
      → StopsAt (means r) partial a b
  stops-at true partial r a b h = inr h
  stops-at false partial r a b h = inl h

  -- where it cuts or backtracks, it fails
  pub FailsAt-by : (f : ReaderState R) (cut : Bool) (place : ℕ) → FailsBy f cut place
      → FailsAt f place
  FailsAt-by f cut place h = (
    h.0,
    λ more partial may.
        stops-at cut partial f.parser (bytes_at f.place (f.ahead ++ more)) (bytes_at place (h.0 ++ more)) (h.1 more partial may),
  )

  -- no matter what follows, the parser gives a value and takes nothing
  abbrev pub IdlesAt : ReaderState R → ℕ → Type 0
  IdlesAt f place = (place ≡ f.place) × ((x : O) × ((more : List ℕ) (partial : Bool) → MayFollow f.ended more partial
      → means f.parser partial (bytes_at place (f.ahead ++ more)) (Gives x (bytes_at place (f.ahead ++ more)))))

module _ {R O : Type 0} (means : R → Meaning O ℕ) where
  -- a value is what the parser returns of the bytes ahead, and it takes n of them, at least one
  abbrev pub TakesValue : ReaderState R → O → ReaderState R → Type 0
  TakesValue old x new = (n : ℕ) × ((0 < n) × (n ≤ length old.ahead)
      × means old.parser (not old.ended) (bytes_at old.place old.ahead) (Gives x (bytes_at new.place new.ahead))
      × (new ≡ taken_by old n))

  -- if as many bytes were ahead as were wanted, as many are wanted now as the parser needs
  abbrev pub WantsNeeded : ReaderState R → ReaderState R → Type 0
  WantsNeeded old new = old.wanted ≤ length old.ahead
      → NeedsLength (means old.parser) old.place old.ahead new.wanted

  -- more is needed only before the end, and only if the parser asked for more than came since; only
  -- how many bytes are wanted changes
  abbrev pub WaitsByNeed : ReaderState R → ReaderState R → Type 0
  WaitsByNeed old new = (old.ended ≡ false)
      × ((input : List ℕ) (values : List O) → HasRead means old input values → Lacks means old)
      × WantsNeeded old new × (new ≡ waiting_for old new.wanted)

module _ {R O E : Type 0} (means : R → Meaning O ℕ) where
  -- an error is the parser's: where it fails no matter what follows, and whether it cuts; where it
  -- returns a value and takes nothing; or that it is refused memory
  abbrev pub FailsAs : ReaderState R → ReadError E → Type 0
  FailsAs old (Failed error place cut) = FailsBy means old cut place
  FailsAs old (TakesNothing place) = IdlesAt means old place
  FailsAs old (Refused refused) =
      means old.parser (not old.ended) (bytes_at old.place old.ahead) (Fails Refuses)

module _ {R O E : Type 0} (means : R → Meaning O ℕ)
    (waits : ReaderState R → ReaderState R → Type 0) where
  -- what a reader returns of its next record, and what it is then: a value is taken; more is
  -- needed, by a relation of the reader's kind; it is done at the end; or it fails. Nothing changes
  -- if it is done or fails.
  abbrev pub ReadsNext : ReaderState R → Result (Next O) (ReadError E) → ReaderState R → Type 0
  ReadsNext old (Ok (Value x)) new = TakesValue means old x new
  ReadsNext old (Ok NeedsMore) new = waits old new
  ReadsNext old (Ok Done) new = IsThrough old × (new ≡ old)
  ReadsNext old (Err error) new = FailsAs means old error × (new ≡ old)

-- it is done just where the input has ended and nothing remains
abbrev pub IsDoneAtEnd : {R O E : Type 0} → ReaderState R → Result (Next O) (ReadError E) → Type 0
IsDoneAtEnd old result = (result ≡ Ok Done) ↔ IsThrough old

-- before the end, and before as many bytes are ahead as are wanted, more is needed, and nothing
-- changes
abbrev pub StaysTillWanted : {R O E : Type 0} → ReaderState R → Result (Next O) (ReadError E)
    → ReaderState R → Type 0
StaysTillWanted old result new = old.ended ≡ false → length old.ahead < old.wanted
    → (result ≡ Ok NeedsMore) × (new ≡ old)

-- the parser needed some bytes more, and while fewer come, more is needed again
abbrev pub WaitsForNeeded : {R O E : Type 0} → (R → Meaning O ℕ) → ReaderState R → List ℕ
    → Result (Next O) (ReadError E) → Type 0
WaitsForNeeded means old piece next = (need : Needed)
    × (means old.parser true (bytes_at old.place old.ahead) (Fails (Needs need))
    × (length piece < size_of need → length old.ahead + length piece < 2 ^ 64 - 1
    → next ≡ Ok NeedsMore))
