-- Which line of a script of lines is the first that is faulty or missing.
use Rattle.std.specs.Prelude.{◌≡◌, ◌⊎◌, ℕ, List}
use Rattle.winnow_script_lines.specs.FaultyLines.{FaultsInput, FaultsFed, FaultsAfterSteps}
use Rattle.winnow_script_lines.specs.Inputs.{kind_word, DenotesKind}
use Rattle.winnow_script_lines.specs.Newline.{first_line, rest_lines}
use Rattle.winnow_script_lines.specs.Readings.{DenotesNothing}
use Rattle.winnow_script_lines.specs.declared.inputs.Kind.{Kind}
use Rattle.winnow_script_lines.specs.declared.inputs.Kind.TheVariants.{Bytes, Text, BytePieces, TextPieces}
use Rattle.winnow_script_lines.specs.ScriptLines.{owned_bytes, owned_text}

-- line k is faulty in a text that follows the line of its kind and whose first line has the number
-- `first`
abbrev pub FaultsAs : Kind → ℕ → List ℕ → ℕ → Type 0
FaultsAs Bytes first text k =
    FaultsAfterSteps owned_bytes (FaultsInput owned_bytes) first text k
FaultsAs Text first text k = FaultsAfterSteps owned_text (FaultsInput owned_text) first text k
FaultsAs BytePieces first text k =
    FaultsAfterSteps owned_bytes (FaultsFed owned_bytes) first text k
FaultsAs TextPieces first text k = FaultsAfterSteps owned_text (FaultsFed owned_text) first text k

-- line k is faulty in a whole text
abbrev pub FaultsScript : List ℕ → ℕ → Type 0
FaultsScript text k =
    ((k ≡ 1) × DenotesNothing DenotesKind (first_line text))
    ⊎ ((kind : Kind) × (first_line text ≡ kind_word kind) × FaultsAs kind 2 (rest_lines text) k)
