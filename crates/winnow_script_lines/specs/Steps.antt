-- The words of step lines.
use Rattle.std.specs.Prelude.{◌≡◌, ◌⊎◌, ℕ, cond, List, [], ◌∷◌, codes, Option, Some, None}
use Rattle.std.specs.Str.{bytes_eq}
use Rattle.winnow_script_run.specs.declared.script.Step.{Step}
use Rattle.winnow_script_run.specs.declared.script.Step.TheVariants as step
use Rattle.winnow_sets.specs.declared.char_set.CharSet.{CharSet}
use Rattle.winnow_script_lines.specs.Literals.{DenotesBytes}
use Rattle.winnow_script_lines.specs.Words.{first_word, later_words, DenotesNumber, DenotesRanges, DenotesNeedles}
use Rattle.winnow_script_lines.specs.declared.steps.ScriptStep.{ScriptStep}
use Rattle.winnow_script_lines.specs.declared.steps.ScriptStep.TheVariants.{Call, First, Compare, Find}

-- the entry for a word in a table
abbrev pub entry : {T : Type 0} → List (List ℕ × T) → List ℕ → Option T
entry [] word = None
entry (row ∷ rows) word = cond (bytes_eq word row.0) (Some row.1) (entry rows word)

-- the calls that are one word
abbrev pub plain_calls : List (List ℕ × Step CharSet)
plain_calls =
    (codes "next", step.Next) ∷ (codes "peek", step.Peek) ∷ (codes "finish", step.Finish)
    ∷ (codes "peek-finish", step.PeekFinish) ∷ (codes "eof", step.Eof) ∷ (codes "each", step.Each)
    ∷ (codes "mark", step.Mark) ∷ []

-- the calls that are a word and a number
abbrev pub numbered_calls : ℕ → List (List ℕ × Step CharSet)
numbered_calls number =
    (codes "take", step.Take number) ∷ (codes "look", step.Look number)
    ∷ (codes "at", step.At number) ∷ (codes "is", step.IsOffset number)
    ∷ (codes "reset", step.Reset number) ∷ (codes "since", step.Since number) ∷ []

-- the line means this call: by the whole line, or by its first word and the number after it
abbrev pub DenotesCall : List ℕ → Step CharSet → Type 0
DenotesCall line call =
    (entry plain_calls line ≡ Some call)
    ⊎ ((number : ℕ) × DenotesNumber (later_words line) number
    × (entry (numbered_calls number) (first_word line) ≡ Some call))

-- the line means this step, where `bytes` gives the bytes of its literals
module _ {L : Type 0} (bytes : L → List ℕ) where
  abbrev pub DenotesStep : List ℕ → ScriptStep L → Type 0
  DenotesStep line (Call call) = DenotesCall line call
  DenotesStep line (First ranges) =
      (first_word line ≡ codes "first") × DenotesRanges (later_words line) ranges.items
  DenotesStep line (Compare literal) =
      (first_word line ≡ codes "compare") × DenotesBytes (later_words line) (bytes literal)
  DenotesStep line (Find needles) =
      (first_word line ≡ codes "find") × DenotesNeedles bytes (later_words line) needles
