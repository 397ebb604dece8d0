-- A parser, and then one that its value chooses: what it answers.
use Rattle.std.specs.Prelude.{◌≡◌, Bool}
use Rattle.std.proofs.Common.{refl, inr, subst}
use Rattle.winnow_stream.specs.declared.needed.Needed.{Needed}
use Rattle.winnow_error.specs.declared.failure.Failure.{Failure}
use Rattle.winnow_parser.specs.Outcome.{Ahead, Outcome, Gives, Fails, Meaning}
use Rattle.winnow_parser.specs.Errors.{Errors, FlatMapErrors}
use Rattle.winnow_parser.specs.FlatMap.{FlatMaps}

module _ {O P T : Type 0} (rest : O → Meaning P T) (first : Meaning O T) (partial later : Bool) (a b : Ahead T) (x : O) (same : later ≡ partial) (gives : first partial a (Gives x b)) where
  -- an answer of the second is one of both
  pub continued : (v : Outcome P T) → rest x later b v → FlatMaps ◌≡◌ rest first partial a v
  continued (Gives y c) h = (x, (b, (x, (gives, refl, subst (λ p. rest x p b (Gives y c)) same h))))
  continued (Fails f) h = inr (x, (b, (x, (gives, refl, subst (λ p. rest x p b (Fails f)) same h))))

  -- an error of the second is one of both
  pub continued-error : {E S : Type 0} (errors : O → Errors E S T) (firsts : Errors E S T) (s : S)
      (f : Failure E Needed) → errors x later b s f
      → FlatMapErrors ◌≡◌ errors first firsts partial a s f
  continued-error errors firsts s f h = inr (x, (b, (x, (gives, refl, subst (λ p. errors x p b s f) same h))))
