-- The first of several parsers that does not backtrack, from the same place.
use Rattle.winnow_parser.specs.Outcome.{Meaning}
use Rattle.winnow_parser.specs.Laws.{IsParser}
use Rattle.winnow_parser.specs.Meanings.{IsAlt2}
use Rattle.winnow_parser.specs.Parts.{IsParser-IsAlt2}

-- the first of three
abbrev pub IsAlt3 : {O T : Type 0} → Type 0 → Meaning O T → Meaning O T → Meaning O T
    → Meaning O T
IsAlt3 r a b c = IsAlt2 r (IsAlt2 r a b) c

-- the first of three parsers keeps the laws of a parser
pub IsParser-IsAlt3 : {O T : Type 0} (r : Type 0) {a b c : Meaning O T} → IsParser a → IsParser b
    → IsParser c → IsParser (IsAlt3 r a b c)
IsParser-IsAlt3 r {a} {b} {c} p0 p1 p2 =
    IsParser-IsAlt2 r (IsAlt2 r a b) c (IsParser-IsAlt2 r a b p0 p1) p2

-- the first of four
abbrev pub IsAlt4 : {O T : Type 0} → Type 0 → Meaning O T → Meaning O T → Meaning O T
    → Meaning O T → Meaning O T
IsAlt4 r a b c d = IsAlt2 r (IsAlt3 r a b c) d

-- the first of four parsers keeps the laws of a parser
pub IsParser-IsAlt4 : {O T : Type 0} (r : Type 0) {a b c d : Meaning O T} → IsParser a
    → IsParser b → IsParser c → IsParser d → IsParser (IsAlt4 r a b c d)
IsParser-IsAlt4 r {a} {b} {c} {d} p0 p1 p2 p3 =
    IsParser-IsAlt2 r (IsAlt3 r a b c) d (IsParser-IsAlt3 r p0 p1 p2) p3

-- the first of five
abbrev pub IsAlt5 : {O T : Type 0} → Type 0 → Meaning O T → Meaning O T → Meaning O T
    → Meaning O T → Meaning O T → Meaning O T
IsAlt5 r a b c d e = IsAlt2 r (IsAlt4 r a b c d) e

-- the first of five parsers keeps the laws of a parser
pub IsParser-IsAlt5 : {O T : Type 0} (r : Type 0) {a b c d e : Meaning O T} → IsParser a
    → IsParser b → IsParser c → IsParser d → IsParser e → IsParser (IsAlt5 r a b c d e)
IsParser-IsAlt5 r {a} {b} {c} {d} {e} p0 p1 p2 p3 p4 =
    IsParser-IsAlt2 r (IsAlt4 r a b c d) e (IsParser-IsAlt4 r p0 p1 p2 p3) p4

-- the first of six
abbrev pub IsAlt6 : {O T : Type 0} → Type 0 → Meaning O T → Meaning O T → Meaning O T
    → Meaning O T → Meaning O T → Meaning O T → Meaning O T
IsAlt6 r a b c d e f = IsAlt2 r (IsAlt5 r a b c d e) f

-- the first of six parsers keeps the laws of a parser
pub IsParser-IsAlt6 : {O T : Type 0} (r : Type 0) {a b c d e f : Meaning O T} → IsParser a
    → IsParser b → IsParser c → IsParser d → IsParser e → IsParser f
    → IsParser (IsAlt6 r a b c d e f)
IsParser-IsAlt6 r {a} {b} {c} {d} {e} {f} p0 p1 p2 p3 p4 p5 =
    IsParser-IsAlt2 r (IsAlt5 r a b c d e) f (IsParser-IsAlt5 r p0 p1 p2 p3 p4) p5

-- the first of seven
abbrev pub IsAlt7 : {O T : Type 0} → Type 0 → Meaning O T → Meaning O T → Meaning O T
    → Meaning O T → Meaning O T → Meaning O T → Meaning O T → Meaning O T
IsAlt7 r a b c d e f g = IsAlt2 r (IsAlt6 r a b c d e f) g

-- the first of seven parsers keeps the laws of a parser
pub IsParser-IsAlt7 : {O T : Type 0} (r : Type 0) {a b c d e f g : Meaning O T} → IsParser a
    → IsParser b → IsParser c → IsParser d → IsParser e → IsParser f → IsParser g
    → IsParser (IsAlt7 r a b c d e f g)
IsParser-IsAlt7 r {a} {b} {c} {d} {e} {f} {g} p0 p1 p2 p3 p4 p5 p6 =
    IsParser-IsAlt2 r (IsAlt6 r a b c d e f) g (IsParser-IsAlt6 r p0 p1 p2 p3 p4 p5) p6

-- the first of eight
abbrev pub IsAlt8 : {O T : Type 0} → Type 0 → Meaning O T → Meaning O T → Meaning O T
    → Meaning O T → Meaning O T → Meaning O T → Meaning O T → Meaning O T → Meaning O T
IsAlt8 r a b c d e f g h = IsAlt2 r (IsAlt7 r a b c d e f g) h

-- the first of eight parsers keeps the laws of a parser
pub IsParser-IsAlt8 : {O T : Type 0} (r : Type 0) {a b c d e f g h : Meaning O T} → IsParser a
    → IsParser b → IsParser c → IsParser d → IsParser e → IsParser f → IsParser g → IsParser h
    → IsParser (IsAlt8 r a b c d e f g h)
IsParser-IsAlt8 r {a} {b} {c} {d} {e} {f} {g} {h} p0 p1 p2 p3 p4 p5 p6 p7 =
    IsParser-IsAlt2 r (IsAlt7 r a b c d e f g) h (IsParser-IsAlt7 r p0 p1 p2 p3 p4 p5 p6) p7

-- the first of nine
abbrev pub IsAlt9 : {O T : Type 0} → Type 0 → Meaning O T → Meaning O T → Meaning O T
    → Meaning O T → Meaning O T → Meaning O T → Meaning O T → Meaning O T → Meaning O T
    → Meaning O T
IsAlt9 r a b c d e f g h i = IsAlt2 r (IsAlt8 r a b c d e f g h) i

-- the first of nine parsers keeps the laws of a parser
pub IsParser-IsAlt9 : {O T : Type 0} (r : Type 0) {a b c d e f g h i : Meaning O T} → IsParser a
    → IsParser b → IsParser c → IsParser d → IsParser e → IsParser f → IsParser g → IsParser h
    → IsParser i → IsParser (IsAlt9 r a b c d e f g h i)
IsParser-IsAlt9 r {a} {b} {c} {d} {e} {f} {g} {h} {i} p0 p1 p2 p3 p4 p5 p6 p7 p8 =
    IsParser-IsAlt2 r (IsAlt8 r a b c d e f g h) i (IsParser-IsAlt8 r p0 p1 p2 p3 p4 p5 p6 p7) p8

-- the first of ten
abbrev pub IsAlt10 : {O T : Type 0} → Type 0 → Meaning O T → Meaning O T → Meaning O T
    → Meaning O T → Meaning O T → Meaning O T → Meaning O T → Meaning O T → Meaning O T
    → Meaning O T → Meaning O T
IsAlt10 r a b c d e f g h i j = IsAlt2 r (IsAlt9 r a b c d e f g h i) j

-- the first of ten parsers keeps the laws of a parser
pub IsParser-IsAlt10 : {O T : Type 0} (r : Type 0) {a b c d e f g h i j : Meaning O T}
    → IsParser a → IsParser b → IsParser c → IsParser d → IsParser e → IsParser f → IsParser g
    → IsParser h → IsParser i → IsParser j → IsParser (IsAlt10 r a b c d e f g h i j)
IsParser-IsAlt10 r {a} {b} {c} {d} {e} {f} {g} {h} {i} {j} p0 p1 p2 p3 p4 p5 p6 p7 p8 p9 =
    IsParser-IsAlt2 r (IsAlt9 r a b c d e f g h i) j (IsParser-IsAlt9 r p0 p1 p2 p3 p4 p5 p6 p7 p8) p9
