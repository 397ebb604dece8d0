-- The laws of every parser: settled answers stay when more input follows, nothing more is needed
-- where nothing more may follow, and the stream only moves on.
use Rattle.std.specs.Prelude.{Bool, true, false, ◌++◌, ⊤}
use Rattle.winnow_stream.specs.Source.{Source}
use Rattle.winnow_stream.specs.declared.needed.Needed.{Needed}
use Rattle.winnow_parser.specs.Outcome.{Ahead, Failed, Backtracks, Cuts, Needs, Refuses, Outcome, Gives, Fails, Meaning, Moves}

-- the same place, with more input after the tokens
abbrev pub longer : {T : Type 0} → Source T → Ahead T → Ahead T
longer more a = record { location = a.location; tokens = a.tokens ++ more }

-- the same failure, with more input after the tokens
abbrev pub failed_longer : {T : Type 0} → Source T → Failed T → Failed T
failed_longer more (Backtracks a) = Backtracks (longer more a)
failed_longer more (Cuts a) = Cuts (longer more a)
failed_longer more (Needs n) = Needs n
failed_longer more Refuses = Refuses

-- the same answer, with more input after the tokens
abbrev pub outcome_longer : {O T : Type 0} → Source T → Outcome O T → Outcome O T
outcome_longer more (Gives x a) = Gives x (longer more a)
outcome_longer more (Fails f) = Fails (failed_longer more f)

-- the failure asks neither for more input nor for more memory
abbrev pub IsDecided : {T : Type 0} → Failed T → Type 0
IsDecided (Backtracks a) = ⊤
IsDecided (Cuts a) = ⊤
IsDecided (Needs n) = ⊥
IsDecided Refuses = ⊥

-- a value, or a failure that is decided
abbrev pub IsSettled : {O T : Type 0} → Outcome O T → Type 0
IsSettled (Gives x a) = ⊤
IsSettled (Fails f) = IsDecided f

-- a settled answer is also an answer for each longer input, whether more may follow that or not
abbrev pub IsStable : {O T : Type 0} → Meaning O T → Type 0
IsStable {O} {T} means = (more : Source T) (partial : Bool) (a : Ahead T) (v : Outcome O T) → IsSettled v
    → means true a v → means partial (longer more a) (outcome_longer more v)

-- where nothing more may follow, nothing more is needed
abbrev pub IsFinal : {O T : Type 0} → Meaning O T → Type 0
IsFinal {O} {T} means = (a : Ahead T) (n : Needed) → ¬ (means false a (Fails (Needs n)))

-- a failing parser left the stream at or after the place where it began
abbrev pub FailsAfter : {T : Type 0} → Ahead T → Failed T → Type 0
FailsAfter a (Backtracks b) = Moves a b
FailsAfter a (Cuts b) = Moves a b
FailsAfter a (Needs n) = ⊤
FailsAfter a Refuses = ⊤

-- the parser left the stream at or after the place where it began
abbrev pub LeavesAfter : {O T : Type 0} → Ahead T → Outcome O T → Type 0
LeavesAfter a (Gives x b) = Moves a b
LeavesAfter a (Fails f) = FailsAfter a f

-- the stream only moves on
abbrev pub IsOnward : {O T : Type 0} → Meaning O T → Type 0
IsOnward {O} {T} means = (partial : Bool) (a : Ahead T) (v : Outcome O T) → means partial a v → LeavesAfter a v

-- the three laws of a parser
pub record IsParser {O T : Type 0} (means : Meaning O T) : Type 0 where
  pub stable : IsStable means
  pub final : IsFinal means
  pub onward : IsOnward means
