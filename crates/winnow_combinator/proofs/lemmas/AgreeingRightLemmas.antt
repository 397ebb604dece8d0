-- Values folded from the right have one answer, where their parts have one.
use Rattle.std.proofs.Common.{List, [], ◌∷◌, None, subst}
use Rattle.std.specs.Prelude.{⊤}
use Rattle.winnow_parser.specs.Outcome.{Meaning}
use Rattle.winnow_parser.specs.Meanings.{Pair}
use Rattle.winnow_parser.specs.Determined.{IsDetermined, AreBothSame}
use Rattle.winnow_parser.proofs.lemmas.DeterminedLemmas.{determined-pair}
use Rattle.winnow_combinator.specs.DeterminedLists.{AreSameEach, StepsRespect}
use Rattle.winnow_combinator.specs.Repeat.{Repeats}
use Rattle.winnow_combinator.proofs.lemmas.AgreeingLemmas.{determined-repeat}
use Rattle.winnow_combinator.proofs.lemmas.CombinedLemmas.{determined-gathered}
use Rattle.winnow_combinator.specs.SeparatedFoldr1.{FoldsRight, IsSeparatedFoldr1}

module _ {O S : Type 0} (same : O → O → Type 0) (alike : S → S → Type 0) (step : O → S → O → O → Type 0) (respects : StepsRespect same (AreBothSame alike same) (λ left pair new. step left pair.0 pair.1 new)) where
  -- from values and lists that are the same, a fold from the right makes the same
  folds-right-respects : (x y l r : O) (ps qs : List (S × O)) → same x y
      → AreSameEach (AreBothSame alike same) ps qs → FoldsRight step x ps l → FoldsRight step y qs r → same l r
  folds-right-respects x y l r [] [] e u h k = subst (λ o. same o r) h (subst (same x) k e)
  folds-right-respects x y l r [] (q ∷ qs) e u h k = absurd u
  folds-right-respects x y l r (p ∷ ps) [] e u h k = absurd u
  folds-right-respects x y l r (p ∷ ps) (q ∷ qs) e u (right, (h, took)) (other, (k, took_too)) =
      let later = folds-right-respects p.1 q.1 right other ps qs u.0.1 u.1 h k in
      respects x y (p.0, right) (q.0, other) l r e (u.0.0, later) took took_too

  -- `IsSeparatedFoldr1` has one answer where its parts have one
  pub determined-separated_foldr1 : {T : Type 0} (separator : Meaning S T) (inner : Meaning O T)
      → IsDetermined alike separator → IsDetermined same inner
      → IsDetermined same (IsSeparatedFoldr1 step separator inner)
  determined-separated_foldr1 separator inner q d =
      let pairs = Pair separator inner in
      let rest = Repeats 0 None pairs in
      let others = determined-repeat (AreBothSame alike same) 0 None pairs (determined-pair alike same separator inner q d) in
      let both = AreBothSame same (AreSameEach (AreBothSame alike same)) in
      determined-gathered both same ⊤ (λ both. FoldsRight step both.0 both.1)
      (λ x y l r e h k. folds-right-respects x.0 y.0 l r x.1 y.1 e.0 e.1 h k)
      (Pair inner rest) (determined-pair same (AreSameEach (AreBothSame alike same)) inner rest d others)
