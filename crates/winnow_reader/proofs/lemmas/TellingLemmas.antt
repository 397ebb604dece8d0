-- What a reader tells of an error is what its record told.
use Rattle.std.specs.Prelude.{ℕ, Bool, List, Result, Ok, Err, IfErr}
use Rattle.winnow_stream.specs.declared.needed.Needed.{Needed}
use Rattle.winnow_error.specs.declared.failure.Failure.{Failure}
use Rattle.winnow_error.specs.declared.failure.Failure.TheVariants.{Incomplete, Backtrack, Cut, Refused}
use Rattle.winnow_parser.specs.Outcome.{Ahead, Backtracks, Cuts, Needs, Fails, Meaning}
use Rattle.winnow_parser.specs.Determined.{IsDetermined}
use Rattle.winnow_parser.specs.Errors.{Errors}
use Rattle.winnow_reader.specs.declared.asking.Asked.{Asked}
use Rattle.winnow_reader.specs.declared.asking.Asked.TheVariants as asked
use Rattle.winnow_reader.specs.State.{ReaderState}
use Rattle.winnow_reader.specs.Asked.{answer_of}
use Rattle.winnow_reader.specs.declared.utf8_record.TextError.{TextError}
use Rattle.winnow_reader.specs.Telling.{AsksError, TellsError}
use Rattle.winnow_reader.specs.declared.utf8_record.TextError.TheVariants.{Text, Damaged}
use Rattle.winnow_reader.specs.InUtf8.{bytes_in, past_text, goes_on, text_ahead, MeetsDamage}
use Rattle.winnow_reader.specs.TextTelling.{TellsDamage, IsDamageIfTold}

-- the error that is handed out is the one that the record gave
pub TellsError-settled : {R O E : Type 0} (errors : R → Errors E (Ahead ℕ) ℕ) (old : ReaderState R)
    (answer : Asked O E) → AsksError (errors old.parser) old.place old.ahead old.ended answer
    → TellsError errors old (answer_of old.place answer)
TellsError-settled errors old (asked.Value x n) h = tt
TellsError-settled errors old (asked.Waits w) h = tt
TellsError-settled errors old asked.Done h = tt
TellsError-settled errors old (asked.Failed e there cut) h = h
TellsError-settled errors old asked.Idle h = tt
TellsError-settled errors old (asked.Refused r) h = tt

module _ {O E : Type 0} (inner : Meaning O ℕ) (same : O → O → Type 0) (d : IsDetermined same inner) (partial : Bool) (a left : Ahead ℕ) (meets : MeetsDamage inner partial a) where
  -- where a record of text with one answer meets damage, each error is told as damage
  pub IsDamageIfTold-meets : (failure : Failure (TextError E) Needed)
      → TellsDamage inner partial a left failure → IsDamageIfTold failure
  IsDamageIfTold-meets (Cut Damaged) h = tt
  IsDamageIfTold-meets (Cut (Text e)) h =
      let both = d (goes_on partial (past_text (bytes_in a.tokens))) (text_ahead a) (Fails (Cuts h.0)) (Fails (Needs meets.1.0)) tt tt h.1.0 meets.1.1 in
      absurd (cc both)
  IsDamageIfTold-meets (Backtrack Damaged) h = h
  IsDamageIfTold-meets (Backtrack (Text e)) h =
      let both = d (goes_on partial (past_text (bytes_in a.tokens))) (text_ahead a) (Fails (Backtracks h.0)) (Fails (Needs meets.1.0)) tt tt h.1.0 meets.1.1 in
      absurd (cc both)
  IsDamageIfTold-meets (Incomplete n) h = tt
  IsDamageIfTold-meets (Refused r) h = tt
