-- The first of two parsers that does not backtrack, and which of the two it was.
use Rattle.std.specs.Prelude.{◌≡◌}
use Rattle.winnow_parser.specs.Outcome.{Meaning}
use Rattle.winnow_parser.specs.Laws.{IsParser}
use Rattle.winnow_parser.specs.Meanings.{Maps, IsAlt2}
use Rattle.winnow_parser.specs.Parts.{IsParser-Maps, IsParser-IsAlt2}
use Rattle.winnow_permutation.specs.declared.turns.Turn.{Turn}
use Rattle.winnow_permutation.specs.declared.turns.Turn.TheVariants.{This, Other}

module _ {X Y : Type 0} where
  -- the value is of this parser, or of the other one
  abbrev pub IsThis : X → Turn X Y → Type 0
  IsThis x turn = This x ≡ turn

  abbrev pub IsOther : Y → Turn X Y → Type 0
  IsOther y turn = Other y ≡ turn

-- this parser, or, where it backtracks, the other one from the same place; where both backtrack,
-- memory may be refused while their errors are joined
abbrev pub TakesTurn : {X Y T : Type 0} → Type 0 → Meaning X T → Meaning Y T
    → Meaning (Turn X Y) T
TakesTurn refusable this other = IsAlt2 refusable (Maps IsThis this) (Maps IsOther other)

-- `TakesTurn` keeps the laws of a parser
pub IsParser-TakesTurn : {X Y T : Type 0} (refusable : Type 0) {this : Meaning X T}
    {other : Meaning Y T} → IsParser this → IsParser other
    → IsParser (TakesTurn refusable this other)
IsParser-TakesTurn refusable {this} {other} p q =
    IsParser-IsAlt2 refusable (Maps IsThis this) (Maps IsOther other) (IsParser-Maps IsThis this p) (IsParser-Maps IsOther other q)
