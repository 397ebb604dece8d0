-- The answer of a call of a parser, as an outcome.
use Rattle.std.specs.Prelude.{ℕ, Option, Result, Ok, Err}
use Rattle.winnow_stream.specs.Source.{Source}
use Rattle.winnow_stream.specs.declared.needed.Needed.{Needed}
use Rattle.winnow_error.specs.declared.failure.Failure.{Failure}
use Rattle.winnow_error.specs.declared.failure.Failure.TheVariants.{Incomplete, Backtrack, Cut, Refused}
use Rattle.winnow_parser.specs.Outcome.{Ahead, Failed, Outcome, Gives, Fails, Backtracks, Cuts, Needs, Refuses}

-- where a stream stands, and the tokens that remain
abbrev pub ahead : {S T : Type 0} → (S → Option ℕ) → (S → Source T) → S → Ahead T
ahead location remaining s = record { location = location s; tokens = remaining s }

-- the failure, with where the parser left the stream
abbrev pub failed : {E T : Type 0} → Failure E Needed → Ahead T → Failed T
failed (Backtrack e) a = Backtracks a
failed (Cut e) a = Cuts a
failed (Incomplete n) a = Needs n
failed (Refused e) a = Refuses

-- the answer, with where the parser left the stream
abbrev pub outcome : {O E T : Type 0} → Result O (Failure E Needed) → Ahead T → Outcome O T
outcome (Ok x) a = Gives x a
outcome (Err e) a = Fails (failed e a)
