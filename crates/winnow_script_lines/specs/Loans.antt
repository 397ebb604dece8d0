-- What a script that owns its steps lends to a run.
use Rattle.std.specs.Prelude.{◌≡◌, ℕ, List}
use Rattle.winnow_script_run.specs.declared.script.Step.TheVariants as step
use Rattle.winnow_script_run.specs.declared.search_steps.SearchStep.{SearchStep}
use Rattle.winnow_script_run.specs.declared.search_steps.SearchStep.TheVariants as search
use Rattle.winnow_match.specs.declared.needles.Needles.{Needles}
use Rattle.winnow_match.specs.declared.needles.Needles.TheVariants.{One, Two, Three}
use Rattle.winnow_sets.specs.Sets.{char_ranges}
use Rattle.winnow_sets.specs.declared.char_set.CharSet.{CharSet}
use Rattle.winnow_script_lines.specs.declared.steps.ScriptStep.{ScriptStep}
use Rattle.winnow_script_lines.specs.declared.steps.ScriptStep.TheVariants.{Call, First, Compare, Find}

module _ {L M : Type 0} (bytes : L → List ℕ) (lent_bytes : M → List ℕ) where
  -- the lent needles have the same bytes
  abbrev pub AreSameNeedles : Needles L → Needles M → Type 0
  AreSameNeedles (One a) (One x) = lent_bytes x ≡ bytes a
  AreSameNeedles (Two a b) (Two x y) = (lent_bytes x ≡ bytes a) × (lent_bytes y ≡ bytes b)
  AreSameNeedles (Three a b c) (Three x y z) =
      (lent_bytes x ≡ bytes a) × (lent_bytes y ≡ bytes b) × (lent_bytes z ≡ bytes c)
  AreSameNeedles _ _ = ⊥

  -- the lent step is the same, with the same bytes
  abbrev pub IsSameStep : ScriptStep L → SearchStep CharSet M → Type 0
  IsSameStep (Call call) lent = lent ≡ search.Call call
  IsSameStep (First ranges) lent =
      (set : CharSet) × (char_ranges set ≡ ranges.items) × (lent ≡ search.Call (step.First set))
  IsSameStep (Compare literal) lent =
      (same : M) × (lent_bytes same ≡ bytes literal) × (lent ≡ search.Compare same)
  IsSameStep (Find needles) lent =
      (same : Needles M) × AreSameNeedles needles same × (lent ≡ search.Find same)
