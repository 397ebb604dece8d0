-- Which lines mean no step.
use Rattle.std.proofs.Common.{◌≡◌, ◌≢◌, ℕ, List, [], codes, Some, None, inl, inr, refl, sym, ◌∙◌, arith}
use Rattle.std.specs.Global.{Vec}
use Rattle.winnow_script_run.specs.declared.script.Step.{Step}
use Rattle.winnow_sets.specs.declared.char_set.CharSet.{CharSet}
use Rattle.winnow_script_lines.specs.Literals.{DenotesLiteral}
use Rattle.winnow_script_lines.specs.Readings.{DenotesNothing}
use Rattle.winnow_script_lines.specs.Steps.{entry, plain_calls, numbered_calls, DenotesCall, DenotesStep}
use Rattle.winnow_script_lines.specs.Words.{first_word, later_words, HasSpace, DenotesNumber, DenotesRanges, DenotesNeedles}
use Rattle.winnow_script_lines.specs.declared.steps.ScriptStep.TheVariants.{Call, First, Compare, Find}
use Rattle.winnow_script_lines.proofs.lemmas.WordLemmas.{later_words-alone, DenotesBytes-filled, DenotesNeedles-alone}
use Rattle.winnow_script_lines.proofs.lemmas.RangeLemmas.{DenotesRanges-filled}

-- a line means no call if it does so neither as one word nor as a word and a number
pub DenotesCall-nothing : (line : List ℕ)
    → ((call : Step CharSet) → entry plain_calls line ≢ Some call)
    → ((number : ℕ) (call : Step CharSet) → DenotesNumber (later_words line) number → entry (numbered_calls number) (first_word line) ≢ Some call)
    → DenotesNothing DenotesCall line
DenotesCall-nothing line plain numbered call told =
    elim told [
      | inl word ↦ plain call word
      | inr words ↦ numbered words.0 call words.1 words.2
    ]

-- a line of one word that is no call's word means no call
pub DenotesCall-alone : (line : List ℕ) → ¬ (HasSpace line) → entry plain_calls line ≡ None
    → DenotesNothing DenotesCall line
DenotesCall-alone line alone none =
    DenotesCall-nothing line (λ call found. cc (sym none ∙ found))
    (λ number call told. omega (arith, rw (later_words-alone line alone) at told.0.0))

module _ {L : Type 0} (bytes : L → List ℕ) (line : List ℕ) (call : DenotesNothing DenotesCall line) where
  -- a line means no step if it means no call, and nothing after the word of another step is what
  -- that step takes
  pub DenotesStep-nothing : (first_word line ≡ codes "first" → (ranges : Vec (ℕ × ℕ))
      → ¬ (DenotesRanges (later_words line) ranges.items))
      → (first_word line ≡ codes "compare" → DenotesNothing (DenotesLiteral bytes) (later_words line))
      → (first_word line ≡ codes "find" → DenotesNothing (DenotesNeedles bytes) (later_words line))
      → DenotesNothing (DenotesStep bytes) line
  DenotesStep-nothing first compare find (Call c) told = call c told
  DenotesStep-nothing first compare find (First ranges) told = first told.0 ranges told.1
  DenotesStep-nothing first compare find (Compare literal) told = compare told.0 literal told.1
  DenotesStep-nothing first compare find (Find needles) told = find told.0 needles told.1

  -- a line of one word that means no call means no step
  pub DenotesStep-alone : ¬ (HasSpace line) → DenotesNothing (DenotesStep bytes) line
  DenotesStep-alone alone =
      let later = later_words-alone line alone in
      DenotesStep-nothing (λ e ranges told. DenotesRanges-filled ranges.items (rw later at told))
      (λ e literal told. DenotesBytes-filled (bytes literal) (rw later at told))
      (λ e needles told. DenotesNeedles-alone bytes [] (λ lt. omega (arith, lt)) (λ literal filled. DenotesBytes-filled (bytes literal) filled) needles (rw later at told))

-- an empty line means no step
pub DenotesStep-filled : {L : Type 0} (bytes : L → List ℕ) → DenotesNothing (DenotesStep bytes) []
DenotesStep-filled bytes =
    let alone : ¬ (HasSpace []) = λ lt. omega (arith, lt) in
    DenotesStep-alone bytes [] (DenotesCall-alone [] alone refl) alone
