-- What a parser may answer, and where it leaves the stream.
use Rattle.std.specs.Prelude.{ℕ, Bool, Option}
use Rattle.winnow_stream.specs.Source.{Source}
use Rattle.winnow_stream.specs.Front.{back}
use Rattle.winnow_stream.specs.Location.{location_behind}
use Rattle.winnow_stream.specs.Moving.{MovesOn}
use Rattle.winnow_stream.specs.declared.needed.Needed.{Needed}

-- where a stream stands: its location in the whole input, if it keeps one, and the tokens that
-- remain
pub record Ahead (T : Type 0) : Type 0 where
  pub location : Option ℕ
  pub tokens : Source T

-- why there is no value: the parser backtracks or cuts, with where it left the stream; or more
-- input is needed; or memory was refused
pub data Failed (T : Type 0) : Type 0 where
  Backtracks : Ahead T → Failed T
  Cuts : Ahead T → Failed T
  Needs : Needed → Failed T
  Refuses : Failed T

-- a value and where the stream stands after it, or a failure
pub data Outcome (O : Type 0) (T : Type 0) : Type 0 where
  Gives : O → Ahead T → Outcome O T
  Fails : Failed T → Outcome O T

-- the meaning of a parser: what it may answer, by whether more may follow and where the stream
-- stands
abbrev pub Meaning : Type 0 → Type 0 → Type 1
Meaning O T = Bool → Ahead T → Outcome O T → Type 0

-- the place after the front of width n
abbrev pub after : {T : Type 0} → Ahead T → ℕ → Ahead T
after a n = record { location = location_behind a.location n; tokens = back a.tokens n }

-- the stream moved on from one place to the other
abbrev pub Moves : {T : Type 0} → Ahead T → Ahead T → Type 0
Moves a b = MovesOn a.location b.location a.tokens b.tokens
