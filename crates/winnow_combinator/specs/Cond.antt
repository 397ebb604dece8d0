-- A parser that is asked on a condition.
use Rattle.std.specs.Prelude.{◌≡◌, Bool, true, false, Option, Some, None}
use Rattle.winnow_parser.specs.Outcome.{Meaning}
use Rattle.winnow_parser.specs.Laws.{IsParser}
use Rattle.winnow_parser.specs.Meanings.{Returns, Maps}
use Rattle.winnow_parser.specs.Parts.{IsParser-Returns, IsParser-Maps}

-- the option is this value in `Some`
abbrev pub IsSomeOf : {O : Type 0} → O → Option O → Type 0
IsSomeOf x y = Some x ≡ y

-- the value in `Some`, if the parser is asked; if not, `None`, and nothing is taken
abbrev pub IsCond : {O T : Type 0} → Bool → Meaning O T → Meaning (Option O) T
IsCond true inner = Maps IsSomeOf inner
IsCond false inner = Returns None

-- `IsCond` keeps the laws of a parser
pub IsParser-IsCond : {O T : Type 0} (flag : Bool) {inner : Meaning O T} → IsParser inner
    → IsParser (IsCond flag inner)
IsParser-IsCond true {inner} p = IsParser-Maps IsSomeOf inner p
IsParser-IsCond false p = IsParser-Returns None
