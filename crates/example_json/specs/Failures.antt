-- How the program ends when it fails.
use Rattle.std.specs.Prelude.{ℕ, List, ◌++◌, codes, ⊤}
use Rattle.example_base.specs.Trouble.{status_of as trouble_status, trouble_text}
use Rattle.format_json.specs.Causes.{damage_text}
use Rattle.example_json.specs.Positions.{position_text}
use Rattle.example_json.specs.declared.failure.Failure.{Failure}
use Rattle.example_json.specs.declared.failure.Failure.TheVariants.{Damaged, Unexpected, TooDeep, EndsEarly, Stopped}

-- the failure is one of the text: memory was not refused, and neither reading nor writing failed
abbrev pub IsOfText : Failure → Type 0
IsOfText (Damaged position cause) = ⊤
IsOfText (Unexpected position) = ⊤
IsOfText (TooDeep position) = ⊤
IsOfText (EndsEarly position) = ⊤
IsOfText (Stopped trouble) = ⊥

-- the exit status for a failure
abbrev pub status_of : Failure → ℕ
status_of (Damaged position cause) = 2
status_of (Unexpected position) = 2
status_of (TooDeep position) = 2
status_of (EndsEarly position) = 2
status_of (Stopped trouble) = trouble_status trouble

-- the text of a failure
abbrev pub failure_text : Failure → List ℕ
failure_text (Damaged position cause) = position_text position ++ codes ": " ++ damage_text cause
failure_text (Unexpected position) =
    position_text position ++ codes ": a token that may not stand here"
failure_text (TooDeep position) =
    position_text position ++ codes ": a value within too many arrays and objects"
failure_text (EndsEarly position) =
    position_text position ++ codes ": the input ends before the text does"
failure_text (Stopped trouble) = trouble_text trouble
