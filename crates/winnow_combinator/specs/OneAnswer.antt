-- A parser that has one answer, as a part of another.
use Rattle.winnow_parser.specs.Outcome.{Meaning}
use Rattle.winnow_parser.specs.Determined.{IsDetermined, Shows}

-- a parser that has one answer, where a view shows what counts of its values
pub record OneAnswer {P O T V : Type 0} (means : P → Meaning O T) (view : O → V) : Type 0 where
  pub parser : P
  pub one : IsDetermined (Shows view) (means parser)
