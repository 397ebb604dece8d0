-- A parser that asks for no more than it needs.
use Rattle.std.specs.Prelude.{◌<◌, true, length}
use Rattle.winnow_stream.specs.Source.{Source}
use Rattle.winnow_stream.specs.declared.needed.Needed.{Needed}
use Rattle.winnow_parser.specs.Outcome.{Ahead, Needs, Outcome, Fails, Meaning}
use Rattle.winnow_parser.specs.Determined.{IsDetermined}
use Rattle.winnow_parser.specs.Laws.{longer, IsSettled, IsParser}
use Rattle.winnow_reader.specs.Wanted.{size_of}

-- if more may follow, no answer is settled there: neither a value nor a failure
abbrev pub IsQuiet : {O T : Type 0} → Meaning O T → Ahead T → Type 0
IsQuiet {O} {T} means a = (v : Outcome O T) → means true a v → ¬ (IsSettled v)

-- where the parser needs more tokens, no answer is settled with fewer; where it cannot say how many
-- it needs, none is before one more came
abbrev pub IsLive : {O T : Type 0} → Meaning O T → Type 0
IsLive {O} {T} means = (a : Ahead T) (need : Needed) (more : Source T)
    → means true a (Fails (Needs need)) → length more < size_of need → IsQuiet means (longer more a)

-- a parser that keeps the laws, has one answer, as far as values are told apart, and is live
pub record IsPunctual {O T : Type 0} (same : O → O → Type 0) (means : Meaning O T) : Type 0 where
  pub lawful : IsParser means
  pub once : IsDetermined same means
  pub live : IsLive means
