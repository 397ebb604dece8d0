-- What is wrong in a text, and how the program ends.
use Rattle.std.specs.Prelude.{ℕ, List, ◌++◌, codes, decimal, ⊤}
use Rattle.format_json.specs.Causes.{damage_text}
use Rattle.example_base.specs.Trouble.{status_of as trouble_status, trouble_text}
use Rattle.wb_json.specs.declared.failure.Fault.{Fault}
use Rattle.wb_json.specs.declared.failure.Fault.TheVariants.{Damaged, Unexpected, TooDeep, EndsEarly, TooLong}
use Rattle.wb_json.specs.declared.failure.Failure.{Failure}
use Rattle.wb_json.specs.declared.failure.Failure.TheVariants.{Faulty, Stopped}

-- the failure is one of the text: memory was not refused, and neither reading nor writing failed
abbrev pub IsOfText : Failure → Type 0
IsOfText (Faulty position fault excerpt) = ⊤
IsOfText (Stopped trouble) = ⊥

-- the failure says that a text is none: it is one of the text, and not that a token is too long
abbrev pub IsNoText : Failure → Type 0
IsNoText (Faulty position (TooLong limit) excerpt) = ⊥
IsNoText (Faulty position fault excerpt) = ⊤
IsNoText (Stopped trouble) = ⊥

-- the exit status for a failure
abbrev pub status_of : Failure → ℕ
status_of (Faulty position fault excerpt) = 2
status_of (Stopped trouble) = trouble_status trouble

-- the text of a fault
abbrev pub fault_text : Fault → List ℕ
fault_text (Damaged cause) = damage_text cause
fault_text Unexpected = codes "a token that may not stand here"
fault_text TooDeep = codes "a value within too many arrays and objects"
fault_text EndsEarly = codes "the input ends before the text does"
fault_text (TooLong limit) = codes "the token has more than " ++ (decimal limit ++ codes " bytes")

-- the text of a failure
abbrev pub failure_text : Failure → List ℕ
failure_text (Faulty position fault excerpt) = fault_text fault
failure_text (Stopped trouble) = trouble_text trouble
