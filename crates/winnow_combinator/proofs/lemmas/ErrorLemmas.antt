-- The errors of repetitions and lists.
use Rattle.std.specs.Prelude.{Bool, List, Result, IfErr}
use Rattle.std.proofs.Common.{inl, inr}
use Rattle.std.proofs.lemmas.Result.{IfErr-weaker}
use Rattle.winnow_stream.specs.declared.needed.Needed.{Needed}
use Rattle.winnow_error.specs.declared.failure.Failure.{Failure}
use Rattle.winnow_parser.specs.Outcome.{Ahead, Gives, Meaning}
use Rattle.winnow_parser.specs.Errors.{Errors, PairErrors}
use Rattle.winnow_combinator.specs.Misuse.{GatheredErrors}
use Rattle.winnow_combinator.specs.Repeat.{Taking, InTurn, RepeatErrors}

module _ {O E S T : Type 0} (means : Meaning O T) (errors : Errors E S T) (partial : Bool) (a b : Ahead T) (s : S) where
  -- a later error, after a first value, is one of the pair
  after-first : (later : Errors E S T) (x : O) (failure : Failure E Needed)
      → means partial a (Gives x b) → GatheredErrors later partial b s failure
      → GatheredErrors (PairErrors means errors later) partial a s failure
  after-first later x failure gives (inl e) = inl (inr (x, (b, (gives, e))))
  after-first later x failure gives (inr e) = inr e

  -- the same for a result, which has an error or none
  pub PairErrors-after : {A : Type 0} (later : Errors E S T) (x : O)
      (r : Result A (Failure E Needed)) → means partial a (Gives x b)
      → IfErr r (GatheredErrors later partial b s)
      → IfErr r (GatheredErrors (PairErrors means errors later) partial a s)
  PairErrors-after later x r gives = IfErr-weaker r _ _ (λ failure e. after-first later x failure gives e)
