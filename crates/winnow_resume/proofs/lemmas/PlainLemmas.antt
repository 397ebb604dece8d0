-- Where no errors are recorded, nothing is skipped.
use Rattle.std.proofs.Common.{◌≡◌, ◌∙◌, Bool, true, false, List, [], ◌∷◌, Option, Some, None, inl, inr, refl, sym, subst, true≢false}
use Rattle.winnow_parser.specs.Outcome.{Ahead, Outcome, Backtracks, Cuts, Needs, Refuses, Gives, Fails, Meaning}
use Rattle.winnow_parser.specs.Meanings.{Maps}
use Rattle.winnow_resume.specs.Chain.{Chain}
use Rattle.winnow_resume.specs.Skipping.{Skips, Attempts}
use Rattle.winnow_resume.specs.ResumeAfter.{ResumesAfter, IsSomeOf}
use Rattle.winnow_resume.specs.RetryAfter.{RetriesAfter}

module _ {O T : Type 0} (records : Bool) (none : records ≡ false) (means : Meaning O T)
    (recover : Meaning (Unit {0}) T) where
  -- an attempt has the answer of the parser
  attempts-plain : (partial : Bool) (a : Ahead T) (v : Outcome O T)
      → Attempts records means recover partial a v → means partial a v
  attempts-plain partial a (Gives x b) h = h
  attempts-plain partial a (Fails (Backtracks b)) h = h
  attempts-plain partial a (Fails (Cuts b)) h = h
  attempts-plain partial a (Fails (Needs n)) (inl h) = h
  attempts-plain partial a (Fails (Needs n)) (inr h) = absurd (true≢false (sym h.0 ∙ none))
  attempts-plain partial a (Fails Refuses) (inl h) = h
  attempts-plain partial a (Fails Refuses) (inr h) = absurd (true≢false (sym h.0 ∙ none))

  -- no failure is skipped
  none-skipped : (partial : Bool) (places : List (Ahead T)) (a b : Ahead T)
      → Chain (Skips true records means recover partial) places a b → a ≡ b
  none-skipped partial [] a b e = e
  none-skipped partial (c ∷ cs) a b h = absurd (true≢false (sym h.0.0 ∙ none))

  -- `retry_after` has the answers of its parser
  pub RetriesAfter-plain : (partial : Bool) (a : Ahead T) (v : Outcome O T)
      → RetriesAfter records means recover partial a v → means partial a v
  RetriesAfter-plain partial a v h =
      subst (λ b. means partial b v) (sym (none-skipped partial h.0 a h.1.0 h.1.1.0)) (attempts-plain partial h.1.0 v h.1.1.1)

  -- `resume_after` has the answers of its parser
  pub ResumesAfter-plain : (partial : Bool) (a : Ahead T) (v : Outcome (Option O) T)
      → ResumesAfter false records means recover partial a v → Maps IsSomeOf means partial a v
  ResumesAfter-plain partial a (Gives (Some x) b) h = (x, (refl, h))
  ResumesAfter-plain partial a (Gives None b) h = absurd (true≢false (sym h.0 ∙ none))
  ResumesAfter-plain partial a (Fails f) h = attempts-plain partial a (Fails f) h
