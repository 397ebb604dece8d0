-- The errors of the first of several parsers that does not backtrack. Where all do, they are joined
-- from the left. Of each parser but the last its meaning is named too: it says where it backtracks.
use Rattle.winnow_parser.specs.Outcome.{Ahead, Meaning}
use Rattle.winnow_parser.specs.Errors.{Errors, AltErrors2}
use Rattle.winnow_parser.specs.Meanings.{IsAlt2}
use Rattle.winnow_combinator.specs.Alt.{IsAlt3, IsAlt4, IsAlt5, IsAlt6}
use Rattle.winnow_combinator.specs.Alt.{IsAlt7, IsAlt8, IsAlt9}

-- the errors of an `alt` of three
abbrev pub AltErrors3 : {O E S T : Type 0} → (S → Ahead T) → Type 0 → (E → E → E → Type 0)
    → Meaning O T → Errors E S T → Meaning O T → Errors E S T → Errors E S T → Errors E S T
AltErrors3 stands r joins ma a mb b c = AltErrors2 stands joins (IsAlt2 r ma mb)
    (AltErrors2 stands joins ma a b) c

-- the errors of an `alt` of four
abbrev pub AltErrors4 : {O E S T : Type 0} → (S → Ahead T) → Type 0 → (E → E → E → Type 0)
    → Meaning O T → Errors E S T → Meaning O T → Errors E S T → Meaning O T → Errors E S T
    → Errors E S T → Errors E S T
AltErrors4 stands r joins ma a mb b mc c d = AltErrors2 stands joins (IsAlt3 r ma mb mc)
    (AltErrors3 stands r joins ma a mb b c) d

-- the errors of an `alt` of five
abbrev pub AltErrors5 : {O E S T : Type 0} → (S → Ahead T) → Type 0 → (E → E → E → Type 0)
    → Meaning O T → Errors E S T → Meaning O T → Errors E S T → Meaning O T → Errors E S T
    → Meaning O T → Errors E S T → Errors E S T → Errors E S T
AltErrors5 stands r joins ma a mb b mc c md d e =
    AltErrors2 stands joins (IsAlt4 r ma mb mc md)
    (AltErrors4 stands r joins ma a mb b mc c d) e

-- the errors of an `alt` of six
abbrev pub AltErrors6 : {O E S T : Type 0} → (S → Ahead T) → Type 0 → (E → E → E → Type 0)
    → Meaning O T → Errors E S T → Meaning O T → Errors E S T → Meaning O T → Errors E S T
    → Meaning O T → Errors E S T → Meaning O T → Errors E S T → Errors E S T → Errors E S T
AltErrors6 stands r joins ma a mb b mc c md d me e f =
    AltErrors2 stands joins (IsAlt5 r ma mb mc md me)
    (AltErrors5 stands r joins ma a mb b mc c md d e) f

-- the errors of an `alt` of seven
abbrev pub AltErrors7 : {O E S T : Type 0} → (S → Ahead T) → Type 0 → (E → E → E → Type 0)
    → Meaning O T → Errors E S T → Meaning O T → Errors E S T → Meaning O T → Errors E S T
    → Meaning O T → Errors E S T → Meaning O T → Errors E S T → Meaning O T → Errors E S T
    → Errors E S T → Errors E S T
AltErrors7 stands r joins ma a mb b mc c md d me e mf f g =
    AltErrors2 stands joins (IsAlt6 r ma mb mc md me mf)
    (AltErrors6 stands r joins ma a mb b mc c md d me e f) g

-- the errors of an `alt` of eight
abbrev pub AltErrors8 : {O E S T : Type 0} → (S → Ahead T) → Type 0 → (E → E → E → Type 0)
    → Meaning O T → Errors E S T → Meaning O T → Errors E S T → Meaning O T → Errors E S T
    → Meaning O T → Errors E S T → Meaning O T → Errors E S T → Meaning O T → Errors E S T
    → Meaning O T → Errors E S T → Errors E S T → Errors E S T
AltErrors8 stands r joins ma a mb b mc c md d me e mf f mg g h =
    AltErrors2 stands joins (IsAlt7 r ma mb mc md me mf mg)
    (AltErrors7 stands r joins ma a mb b mc c md d me e mf f g) h

-- the errors of an `alt` of nine
abbrev pub AltErrors9 : {O E S T : Type 0} → (S → Ahead T) → Type 0 → (E → E → E → Type 0)
    → Meaning O T → Errors E S T → Meaning O T → Errors E S T → Meaning O T → Errors E S T
    → Meaning O T → Errors E S T → Meaning O T → Errors E S T → Meaning O T → Errors E S T
    → Meaning O T → Errors E S T → Meaning O T → Errors E S T → Errors E S T → Errors E S T
AltErrors9 stands r joins ma a mb b mc c md d me e mf f mg g mh h i =
    AltErrors2 stands joins (IsAlt8 r ma mb mc md me mf mg mh)
    (AltErrors8 stands r joins ma a mb b mc c md d me e mf f mg g h) i

-- the errors of an `alt` of ten
abbrev pub AltErrors10 : {O E S T : Type 0} → (S → Ahead T) → Type 0 → (E → E → E → Type 0)
    → Meaning O T → Errors E S T → Meaning O T → Errors E S T → Meaning O T → Errors E S T
    → Meaning O T → Errors E S T → Meaning O T → Errors E S T → Meaning O T → Errors E S T
    → Meaning O T → Errors E S T → Meaning O T → Errors E S T → Meaning O T → Errors E S T
    → Errors E S T → Errors E S T
AltErrors10 stands r joins ma a mb b mc c md d me e mf f mg g mh h mi i j =
    AltErrors2 stands joins (IsAlt9 r ma mb mc md me mf mg mh mi)
    (AltErrors9 stands r joins ma a mb b mc c md d me e mf f mg g mh h i) j
