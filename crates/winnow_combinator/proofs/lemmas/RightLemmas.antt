-- Values with separators between them, folded from the right.
use Rattle.std.specs.Prelude.{◌≡◌, List, None, Bool, ⊤}
use Rattle.std.proofs.Common.{inl, inr, subst}
use Rattle.winnow_parser.specs.Outcome.{Ahead, Failed, Backtracks, Cuts, Needs, Refuses, Gives, Fails, Meaning}
use Rattle.winnow_parser.specs.Meanings.{Pair}
use Rattle.winnow_combinator.specs.Gathering.{Gathered}
use Rattle.winnow_combinator.specs.Repeat.{Repeats}
use Rattle.winnow_combinator.specs.SeparatedFoldr1.{FoldsRight, IsSeparatedFoldr1}

module _ {O S T : Type 0} (step : O → S → O → O → Type 0) (separator : Meaning S T) (inner : Meaning O T) (more partial : Bool) (flag : more ≡ partial) (a b : Ahead T) (first : O) (means : inner partial a (Gives first b)) where
  -- a first value and then pairs that are folded from the right are the whole
  pub IsSeparatedFoldr1-gives : (pairs : List (S × O)) (y : O) (c : Ahead T)
      → Repeats 0 None (Pair separator inner) more b (Gives pairs c)
      → FoldsRight step first pairs y
      → IsSeparatedFoldr1 step separator inner partial a (Gives y c)
  IsSeparatedFoldr1-gives pairs y c h folds =
      ((first, pairs), (folds, (b, (means, subst (λ m. Repeats 0 None (Pair separator inner) m b (Gives pairs c)) flag h))))

  -- a failure of the pairs is one of the whole
  later-fails : (f : Failed T) → Repeats 0 None (Pair separator inner) more b (Fails f)
      → Pair inner (Repeats 0 None (Pair separator inner)) partial a (Fails f)
  later-fails f h = inr (first, (b, (means, subst (λ m. Repeats 0 None (Pair separator inner) m b (Fails f)) flag h)))

  -- a first value and then a failure are a failure
  pub IsSeparatedFoldr1-fails : {A : Type 0} (makes : List (S × O) → A → Type 0) (f : Failed T)
      → Gathered ⊤ makes (Repeats 0 None (Pair separator inner)) more b (Fails f)
      → IsSeparatedFoldr1 step separator inner partial a (Fails f)
  IsSeparatedFoldr1-fails makes (Backtracks c) h = later-fails (Backtracks c) h
  IsSeparatedFoldr1-fails makes (Cuts c) h = later-fails (Cuts c) h
  IsSeparatedFoldr1-fails makes (Needs n) h = later-fails (Needs n) h
  IsSeparatedFoldr1-fails makes Refuses h = inl tt
