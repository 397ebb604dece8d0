-- Which line of a text is the first that is faulty or missing. Lines are counted from the number of
-- the text's first line.
use Rattle.std.specs.Prelude.{◌≡◌, ◌≢◌, ◌⊎◌, ℕ, ◌+◌, List, [], ◌∷◌, ◌++◌, codes, length}
use Rattle.winnow_script_lines.specs.Inputs.{DenotesNamed, DenotesFed, BeginsWithPiece}
use Rattle.winnow_script_lines.specs.Lines.{AreLines}
use Rattle.winnow_script_lines.specs.Newline.{first_line, rest_lines}
use Rattle.winnow_script_lines.specs.Readings.{DenotesNothing}
use Rattle.winnow_script_lines.specs.Steps.{DenotesStep}
use Rattle.winnow_script_lines.specs.declared.fed_lines.FedLine.{FedLine}
use Rattle.winnow_script_lines.specs.declared.steps.ScriptStep.{ScriptStep}

module _ {L : Type 0} (bytes : L → List ℕ) where
  -- the text is not a single input: its first line means no input, or means one and another line
  -- follows
  abbrev pub FaultsInput : ℕ → List ℕ → ℕ → Type 0
  FaultsInput first text k =
      ((k ≡ first) × DenotesNothing (DenotesNamed bytes (codes "input")) (first_line text))
      ⊎ ((k ≡ first + 1) × (rest_lines text ≢ [])
      × ((input : L) × DenotesNamed bytes (codes "input") (first_line text) input))

  -- after lines that mean this, the next line means nothing that may follow them
  abbrev pub EndsFed : List (FedLine L) → List ℕ → Type 0
  EndsFed told line =
      DenotesNothing (λ next item. DenotesFed bytes next item × BeginsWithPiece (told ++ item ∷ [])) line

  -- the text does not consist of lines of pieces: a line remains after those that are, and means
  -- nothing that may follow them
  abbrev pub FaultsFed : ℕ → List ℕ → ℕ → Type 0
  FaultsFed first text k =
      (told : List (FedLine L)) × (rest : List ℕ) × AreLines (DenotesFed bytes) text told rest
      × BeginsWithPiece told × (rest ≢ []) × EndsFed told (first_line rest)
      × (k ≡ first + length told)

  -- after all lines of steps, the rest of the text has a fault
  abbrev pub FaultsAfterSteps : (ℕ → List ℕ → ℕ → Type 0) → ℕ → List ℕ → ℕ → Type 0
  FaultsAfterSteps Faults first text k =
      (steps : List (ScriptStep L)) × (rest : List ℕ) × AreLines (DenotesStep bytes) text steps rest
      × DenotesNothing (DenotesStep bytes) (first_line rest) × Faults (first + length steps) rest k
