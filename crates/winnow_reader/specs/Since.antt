-- What a reader has read of the input from a place on, as after bytes that were skipped.
use Rattle.std.specs.Prelude.{ℕ, Bool, List, ◌++◌, Result}
use Rattle.winnow_parser.specs.Outcome.{Meaning}
use Rattle.winnow_reader.specs.declared.next.Next.{Next}
use Rattle.winnow_reader.specs.declared.next.ReadError.{ReadError}
use Rattle.winnow_reader.specs.Place.{bytes_at}
use Rattle.winnow_reader.specs.State.{ReaderState}
use Rattle.winnow_reader.specs.Reading.{Reads, MayFollow, AwaitsAsked, values_in}

module _ {R O : Type 0} (means : R → Meaning O ℕ) (place : ℕ) where
  -- of this input from the place on a reader has read these values: no matter what follows, the
  -- parser, repeated over it from that place, gives just these and stands where the reader does.
  -- And where the reader waits, the parser asked for what it waits for.
  pub record HasReadSince (f : ReaderState R) (input : List ℕ) (values : List O) : Type 0 where
    pub reads : (more : List ℕ) (partial : Bool) → MayFollow f.ended more partial
        → Reads (means f.parser) partial (bytes_at place (input ++ more)) values (bytes_at f.place (f.ahead ++ more))
    pub awaits : AwaitsAsked means f

  -- no matter what was read since the place, with a piece more the reader has read the same
  abbrev pub ReadsAlsoSince : ReaderState R → List ℕ → ReaderState R → Type 0
  ReadsAlsoSince old piece new = (input : List ℕ) (values : List O)
      → HasReadSince old input values → HasReadSince new (input ++ piece) values

  -- no matter what was read since the place, the other reader has read the same
  abbrev pub ReadsThroughSince : ReaderState R → ReaderState R → Type 0
  ReadsThroughSince old new = (input : List ℕ) (values : List O)
      → HasReadSince old input values → HasReadSince new input values

  -- no matter what was read since the place, the other reader has read that, and the value if there
  -- is one
  abbrev pub ReadsOnSince : {E : Type 0} → ReaderState R → Result (Next O) (ReadError E)
      → ReaderState R → Type 0
  ReadsOnSince old result new = (input : List ℕ) (values : List O)
      → HasReadSince old input values → HasReadSince new input (values ++ values_in result)
