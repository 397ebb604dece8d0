-- Which error a record with a limit fails with.
use Rattle.std.specs.Prelude.{ℕ, Bool, Result, Ok, Err, ⊤}
use Rattle.winnow_stream.specs.declared.needed.Needed.{Needed}
use Rattle.winnow_error.specs.declared.failure.Failure.{Failure}
use Rattle.winnow_error.specs.declared.failure.Failure.TheVariants.{Incomplete, Backtrack, Cut, Refused}
use Rattle.winnow_parser.specs.Outcome.{Ahead, Cuts, Fails, Meaning}
use Rattle.winnow_reader_limit.specs.declared.limit.LimitedError.{LimitedError}
use Rattle.winnow_reader_limit.specs.declared.limit.LimitedError.TheVariants.{TooLong, Failed}
use Rattle.winnow_reader_limit.specs.Within.{AnswersFirst, IsTooLong}

module _ {O E : Type 0} (greatest : ℕ) (means : Meaning O ℕ) where
  -- a cut whose error says that the record is too long is one where it is, any other cut is the
  -- record's own, and where it backtracks it is not told as too long
  abbrev pub TellsWhy : Bool → Ahead ℕ → Result O (Failure (LimitedError E) Needed) → Type 0
  TellsWhy partial a (Err (Cut TooLong)) = IsTooLong greatest means partial a
  TellsWhy partial a (Err (Cut (Failed e))) =
      (c : Ahead ℕ) × AnswersFirst greatest means partial a (Fails (Cuts c))
  TellsWhy partial a (Err (Backtrack TooLong)) = ⊥
  TellsWhy partial a (Err (Backtrack (Failed e))) = ⊤
  TellsWhy partial a (Err (Incomplete n)) = ⊤
  TellsWhy partial a (Err (Refused r)) = ⊤
  TellsWhy partial a (Ok x) = ⊤
