-- Parsers in a row of which some values are dropped, and values that a function folds.
use Rattle.std.proofs.Common.{ℕ, Option, refl, subst}
use Rattle.std.specs.Prelude.{◌≡◌}
use Rattle.winnow_parser.specs.Outcome.{Meaning}
use Rattle.winnow_parser.specs.Meanings.{IsAlways, IsForgotten, First, Second, Pair, IsPreceded, IsTerminated}
use Rattle.winnow_parser.specs.Determined.{IsDetermined, Respects, Shows, AreBothSame}
use Rattle.winnow_parser.proofs.lemmas.DeterminedLemmas.{determined-maps, determined-pair}
use Rattle.winnow_combinator.specs.Appended.{AppendingIf, needs_some}
use Rattle.winnow_combinator.specs.Counts.{Ascending}
use Rattle.winnow_combinator.specs.DeterminedLists.{AreSameEach, StepsRespect, IsOneStart}
use Rattle.winnow_combinator.specs.Gathering.{Gathered, Folds}
use Rattle.winnow_combinator.specs.Repeat.{Repeats}
use Rattle.winnow_combinator.proofs.lemmas.AgreeingLemmas.{determined-repeat}
use Rattle.winnow_combinator.proofs.lemmas.AgreeingEndLemmas.{folds-respects}
use Rattle.winnow_combinator.proofs.lemmas.CombinedLemmas.{determined-gathered, determined-appending_if, determined-ascending, second-respects}

module _ {O P T : Type 0} (same : O → O → Type 0) (alike : P → P → Type 0) (first : Meaning O T) (second : Meaning P T) (d : IsDetermined same first) (e : IsDetermined alike second) where
  -- the first parts of pairs that are the same are the same
  first-respects : Respects (AreBothSame same alike) same First
  first-respects x y p r both h k = subst (λ o. same o r) h (subst (same x.0) k both.0)

  -- `IsPreceded` has one answer where its parts have one
  pub determined-preceded : IsDetermined alike (IsPreceded first second)
  determined-preceded =
      determined-maps (AreBothSame same alike) alike Second (second-respects alike same first second d e) (Pair first second)
      (determined-pair same alike first second d e)

  -- `IsTerminated` has one answer where its parts have one
  pub determined-terminated : IsDetermined same (IsTerminated first second)
  determined-terminated =
      determined-maps (AreBothSame same alike) same First first-respects (Pair first second) (determined-pair same alike first second d e)

-- one value is the same for all values
pub always-respects : {O P W : Type 0} (same : O → O → Type 0) (view : P → W) (value : P)
    → Respects same (Shows view) (IsAlways value)
always-respects same view value x y p q e h k = subst (λ z. view z ≡ view q) h (subst (λ z. view value ≡ view z) k refl)

-- where nothing is kept, what is kept is equal
pub forgotten-respects : {O : Type 0} (same : O → O → Type 0) → Respects same ◌≡◌ IsForgotten
forgotten-respects same x y p q e h k = refl

module _ {O P : Type 0} (same : O → O → Type 0) (alike : P → P → Type 0) (starts : O → Type 0) (step : O → P → O → Type 0) (start : IsOneStart same starts) (respects : StepsRespect same alike step) where
  -- folding lists that are the same, from the same start, gives the same
  starting-respects : Respects (AreSameEach alike) same (Folds starts step)
  starting-respects xs ys l r e h k =
      folds-respects same alike step respects h.0 k.0 l r xs ys (start h.0 k.0 h.1.0 k.1.0) e h.1.1 k.1.1

  -- folded values have one answer where the values have one
  pub determined-fold : {T : Type 0} (refusable : Type 0) (inner : Meaning P T)
      → IsDetermined alike inner → (least : ℕ) (greatest : Option ℕ)
      → IsDetermined same (Ascending least greatest (Gathered ⊥ (Folds starts step) (AppendingIf (needs_some least) refusable (Repeats least greatest inner))))
  determined-fold refusable inner d least greatest =
      let values = Repeats least greatest inner in
      let appending = AppendingIf (needs_some least) refusable values in
      let one = determined-appending_if refusable (AreSameEach alike) values (determined-repeat alike least greatest inner d) (needs_some least) in
      determined-ascending same (Gathered ⊥ (Folds starts step) appending)
      (determined-gathered (AreSameEach alike) same ⊥ (Folds starts step) starting-respects appending one) least greatest
