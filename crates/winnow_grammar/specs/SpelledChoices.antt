-- The first of three to ten parsers takes for its value what spells it.
use Rattle.winnow_parser.specs.Outcome.{Meaning}
use Rattle.winnow_parser.specs.Meanings.{IsAlt2}
use Rattle.winnow_combinator.specs.Alt.{IsAlt3, IsAlt4, IsAlt5, IsAlt6, IsAlt7, IsAlt8, IsAlt9, IsAlt10}
use Rattle.winnow_grammar.specs.Spelling.{Spelling, IsSpelled}
use Rattle.winnow_grammar.specs.Spellings.{Or, Or3, Or4, Or5, Or6, Or7, Or8, Or9, Or10}
use Rattle.winnow_grammar.specs.Spelled.{spelled-Or}

pub spelled-Or3 : {O T : Type 0} (r : Type 0) (p0 p1 p2 : Spelling O T) (m0 m1 m2 : Meaning O T)
    → IsSpelled p0 m0 → IsSpelled p1 m1 → IsSpelled p2 m2
    → IsSpelled (Or3 p0 p1 p2) (IsAlt3 r m0 m1 m2)
spelled-Or3 r p0 p1 p2 m0 m1 m2 h0 h1 h2 =
    spelled-Or r (Or p0 p1) p2 (IsAlt2 r m0 m1) m2
    (spelled-Or r p0 p1 m0 m1 h0 h1) h2

pub spelled-Or4 : {O T : Type 0} (r : Type 0) (p0 p1 p2 p3 : Spelling O T)
    (m0 m1 m2 m3 : Meaning O T) → IsSpelled p0 m0 → IsSpelled p1 m1 → IsSpelled p2 m2
    → IsSpelled p3 m3 → IsSpelled (Or4 p0 p1 p2 p3) (IsAlt4 r m0 m1 m2 m3)
spelled-Or4 r p0 p1 p2 p3 m0 m1 m2 m3 h0 h1 h2 h3 =
    spelled-Or r (Or3 p0 p1 p2) p3 (IsAlt3 r m0 m1 m2) m3
    (spelled-Or3 r p0 p1 p2 m0 m1 m2 h0 h1 h2) h3

pub spelled-Or5 : {O T : Type 0} (r : Type 0) (p0 p1 p2 p3 p4 : Spelling O T)
    (m0 m1 m2 m3 m4 : Meaning O T) → IsSpelled p0 m0 → IsSpelled p1 m1 → IsSpelled p2 m2
    → IsSpelled p3 m3 → IsSpelled p4 m4 → IsSpelled (Or5 p0 p1 p2 p3 p4) (IsAlt5 r m0 m1 m2 m3 m4)
spelled-Or5 r p0 p1 p2 p3 p4 m0 m1 m2 m3 m4 h0 h1 h2 h3 h4 =
    spelled-Or r (Or4 p0 p1 p2 p3) p4 (IsAlt4 r m0 m1 m2 m3) m4
    (spelled-Or4 r p0 p1 p2 p3 m0 m1 m2 m3 h0 h1 h2 h3) h4

pub spelled-Or6 : {O T : Type 0} (r : Type 0) (p0 p1 p2 p3 p4 p5 : Spelling O T)
    (m0 m1 m2 m3 m4 m5 : Meaning O T) → IsSpelled p0 m0 → IsSpelled p1 m1 → IsSpelled p2 m2
    → IsSpelled p3 m3 → IsSpelled p4 m4 → IsSpelled p5 m5
    → IsSpelled (Or6 p0 p1 p2 p3 p4 p5) (IsAlt6 r m0 m1 m2 m3 m4 m5)
spelled-Or6 r p0 p1 p2 p3 p4 p5 m0 m1 m2 m3 m4 m5 h0 h1 h2 h3 h4 h5 =
    spelled-Or r (Or5 p0 p1 p2 p3 p4) p5 (IsAlt5 r m0 m1 m2 m3 m4) m5
    (spelled-Or5 r p0 p1 p2 p3 p4 m0 m1 m2 m3 m4 h0 h1 h2 h3 h4) h5

pub spelled-Or7 : {O T : Type 0} (r : Type 0) (p0 p1 p2 p3 p4 p5 p6 : Spelling O T)
    (m0 m1 m2 m3 m4 m5 m6 : Meaning O T) → IsSpelled p0 m0 → IsSpelled p1 m1 → IsSpelled p2 m2
    → IsSpelled p3 m3 → IsSpelled p4 m4 → IsSpelled p5 m5 → IsSpelled p6 m6
    → IsSpelled (Or7 p0 p1 p2 p3 p4 p5 p6) (IsAlt7 r m0 m1 m2 m3 m4 m5 m6)
spelled-Or7 r p0 p1 p2 p3 p4 p5 p6 m0 m1 m2 m3 m4 m5 m6 h0 h1 h2 h3 h4 h5 h6 =
    spelled-Or r (Or6 p0 p1 p2 p3 p4 p5) p6 (IsAlt6 r m0 m1 m2 m3 m4 m5) m6
    (spelled-Or6 r p0 p1 p2 p3 p4 p5 m0 m1 m2 m3 m4 m5 h0 h1 h2 h3 h4 h5) h6

pub spelled-Or8 : {O T : Type 0} (r : Type 0) (p0 p1 p2 p3 p4 p5 p6 p7 : Spelling O T)
    (m0 m1 m2 m3 m4 m5 m6 m7 : Meaning O T) → IsSpelled p0 m0 → IsSpelled p1 m1 → IsSpelled p2 m2
    → IsSpelled p3 m3 → IsSpelled p4 m4 → IsSpelled p5 m5 → IsSpelled p6 m6 → IsSpelled p7 m7
    → IsSpelled (Or8 p0 p1 p2 p3 p4 p5 p6 p7) (IsAlt8 r m0 m1 m2 m3 m4 m5 m6 m7)
spelled-Or8 r p0 p1 p2 p3 p4 p5 p6 p7 m0 m1 m2 m3 m4 m5 m6 m7 h0 h1 h2 h3 h4 h5 h6 h7 =
    spelled-Or r (Or7 p0 p1 p2 p3 p4 p5 p6) p7 (IsAlt7 r m0 m1 m2 m3 m4 m5 m6) m7
    (spelled-Or7 r p0 p1 p2 p3 p4 p5 p6 m0 m1 m2 m3 m4 m5 m6 h0 h1 h2 h3 h4 h5 h6) h7

pub spelled-Or9 : {O T : Type 0} (r : Type 0) (p0 p1 p2 p3 p4 p5 p6 p7 p8 : Spelling O T)
    (m0 m1 m2 m3 m4 m5 m6 m7 m8 : Meaning O T) → IsSpelled p0 m0 → IsSpelled p1 m1
    → IsSpelled p2 m2 → IsSpelled p3 m3 → IsSpelled p4 m4 → IsSpelled p5 m5 → IsSpelled p6 m6
    → IsSpelled p7 m7 → IsSpelled p8 m8
    → IsSpelled (Or9 p0 p1 p2 p3 p4 p5 p6 p7 p8) (IsAlt9 r m0 m1 m2 m3 m4 m5 m6 m7 m8)
spelled-Or9 r p0 p1 p2 p3 p4 p5 p6 p7 p8 m0 m1 m2 m3 m4 m5 m6 m7 m8 h0 h1 h2 h3 h4 h5 h6 h7 h8 =
    spelled-Or r (Or8 p0 p1 p2 p3 p4 p5 p6 p7) p8 (IsAlt8 r m0 m1 m2 m3 m4 m5 m6 m7) m8
    (spelled-Or8 r p0 p1 p2 p3 p4 p5 p6 p7 m0 m1 m2 m3 m4 m5 m6 m7 h0 h1 h2 h3 h4 h5 h6 h7) h8

pub spelled-Or10 : {O T : Type 0} (r : Type 0) (p0 p1 p2 p3 p4 p5 p6 p7 p8 p9 : Spelling O T)
    (m0 m1 m2 m3 m4 m5 m6 m7 m8 m9 : Meaning O T) → IsSpelled p0 m0 → IsSpelled p1 m1
    → IsSpelled p2 m2 → IsSpelled p3 m3 → IsSpelled p4 m4 → IsSpelled p5 m5 → IsSpelled p6 m6
    → IsSpelled p7 m7 → IsSpelled p8 m8 → IsSpelled p9 m9
    → IsSpelled (Or10 p0 p1 p2 p3 p4 p5 p6 p7 p8 p9) (IsAlt10 r m0 m1 m2 m3 m4 m5 m6 m7 m8 m9)
spelled-Or10 r p0 p1 p2 p3 p4 p5 p6 p7 p8 p9 m0 m1 m2 m3 m4 m5 m6 m7 m8 m9 h0 h1 h2 h3 h4 h5 h6 h7 h8 h9 =
    spelled-Or r (Or9 p0 p1 p2 p3 p4 p5 p6 p7 p8) p9 (IsAlt9 r m0 m1 m2 m3 m4 m5 m6 m7 m8) m9
    (spelled-Or9 r p0 p1 p2 p3 p4 p5 p6 p7 p8 m0 m1 m2 m3 m4 m5 m6 m7 m8 h0 h1 h2 h3 h4 h5 h6 h7 h8) h9
