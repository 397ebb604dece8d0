-- Answers of two parsers, the second of which the value of the first decides.
use Rattle.std.proofs.Common.{inr}
use Rattle.std.specs.Prelude.{Bool}
use Rattle.winnow_parser.specs.Outcome.{Ahead, Outcome, Gives, Fails, Meaning}
use Rattle.winnow_expression.specs.Then.{Then}

module _ {O P T : Type 0} (first : Meaning O T) (next : O → Meaning P T) (partial : Bool) where
  -- an answer of the second parser, after a value of the first, is one of both
  pub Then-goes : (a b : Ahead T) (x : O) (v : Outcome P T) → first partial a (Gives x b)
      → next x partial b v → Then first next partial a v
  Then-goes a b x (Gives y c) h k = (x, (b, (h, k)))
  Then-goes a b x (Fails f) h k = inr (x, (b, (h, k)))
