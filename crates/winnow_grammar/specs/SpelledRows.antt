-- Three to ten parsers in a row take for their values what spells them.
use Rattle.std.proofs.Common.{subst}
use Rattle.winnow_parser.specs.Outcome.{Meaning}
use Rattle.winnow_parser.specs.Meanings.{Pair}
use Rattle.winnow_parser.specs.Rows.{Row3, Row4, Row5, Row6, Row7, Row8, Row9, Row10}
use Rattle.winnow_grammar.specs.Spelling.{Spelling, IsSpelled}
use Rattle.winnow_grammar.specs.Spellings.{Then}
use Rattle.winnow_grammar.specs.SpellingRows.{Then3, Then4, Then5, Then6, Then7, Then8, Then9, Then10}
use Rattle.winnow_grammar.specs.Spelled.{takes-on, spelled-Then}

pub spelled-Then3 : {A B C T : Type 0} (p0 : Spelling A T) (p1 : Spelling B T) (p2 : Spelling C T)
    (m0 : Meaning A T) (m1 : Meaning B T) (m2 : Meaning C T) → IsSpelled p0 m0 → IsSpelled p1 m1
    → IsSpelled p2 m2 → IsSpelled (Then3 p0 p1 p2) (Row3 m0 m1 m2)
spelled-Then3 p0 p1 p2 m0 m1 m2 h0 h1 h2 partial a b all wide (parts, (same, h)) =
    takes-on (Then p0 (Then p1 p2)) (Then3 p0 p1 p2) parts all a b (λ ts k. subst (λ u. Then3 p0 p1 p2 u ts) same k)
    (spelled-Then p0 (Then p1 p2) m0 (Pair m1 m2) h0 (spelled-Then p1 p2 m1 m2 h1 h2) partial a b parts wide h)

pub spelled-Then4 : {A B C D T : Type 0} (p0 : Spelling A T) (p1 : Spelling B T)
    (p2 : Spelling C T) (p3 : Spelling D T) (m0 : Meaning A T) (m1 : Meaning B T)
    (m2 : Meaning C T) (m3 : Meaning D T) → IsSpelled p0 m0 → IsSpelled p1 m1 → IsSpelled p2 m2
    → IsSpelled p3 m3 → IsSpelled (Then4 p0 p1 p2 p3) (Row4 m0 m1 m2 m3)
spelled-Then4 p0 p1 p2 p3 m0 m1 m2 m3 h0 h1 h2 h3 partial a b all wide (parts, (same, h)) =
    takes-on (Then p0 (Then3 p1 p2 p3)) (Then4 p0 p1 p2 p3) parts all a b (λ ts k. subst (λ u. Then4 p0 p1 p2 p3 u ts) same k)
    (spelled-Then p0 (Then3 p1 p2 p3) m0 (Row3 m1 m2 m3) h0 (spelled-Then3 p1 p2 p3 m1 m2 m3 h1 h2 h3) partial a b parts wide h)

pub spelled-Then5 : {A B C D E T : Type 0} (p0 : Spelling A T) (p1 : Spelling B T)
    (p2 : Spelling C T) (p3 : Spelling D T) (p4 : Spelling E T) (m0 : Meaning A T)
    (m1 : Meaning B T) (m2 : Meaning C T) (m3 : Meaning D T) (m4 : Meaning E T) → IsSpelled p0 m0
    → IsSpelled p1 m1 → IsSpelled p2 m2 → IsSpelled p3 m3 → IsSpelled p4 m4
    → IsSpelled (Then5 p0 p1 p2 p3 p4) (Row5 m0 m1 m2 m3 m4)
spelled-Then5 p0 p1 p2 p3 p4 m0 m1 m2 m3 m4 h0 h1 h2 h3 h4 partial a b all wide (parts, (same, h)) =
    takes-on (Then p0 (Then4 p1 p2 p3 p4)) (Then5 p0 p1 p2 p3 p4) parts all a b (λ ts k. subst (λ u. Then5 p0 p1 p2 p3 p4 u ts) same k)
    (spelled-Then p0 (Then4 p1 p2 p3 p4) m0 (Row4 m1 m2 m3 m4) h0 (spelled-Then4 p1 p2 p3 p4 m1 m2 m3 m4 h1 h2 h3 h4) partial a b parts wide h)

pub spelled-Then6 : {A B C D E F T : Type 0} (p0 : Spelling A T) (p1 : Spelling B T)
    (p2 : Spelling C T) (p3 : Spelling D T) (p4 : Spelling E T) (p5 : Spelling F T)
    (m0 : Meaning A T) (m1 : Meaning B T) (m2 : Meaning C T) (m3 : Meaning D T) (m4 : Meaning E T)
    (m5 : Meaning F T) → IsSpelled p0 m0 → IsSpelled p1 m1 → IsSpelled p2 m2 → IsSpelled p3 m3
    → IsSpelled p4 m4 → IsSpelled p5 m5
    → IsSpelled (Then6 p0 p1 p2 p3 p4 p5) (Row6 m0 m1 m2 m3 m4 m5)
spelled-Then6 p0 p1 p2 p3 p4 p5 m0 m1 m2 m3 m4 m5 h0 h1 h2 h3 h4 h5 partial a b all wide (parts, (same, h)) =
    takes-on (Then p0 (Then5 p1 p2 p3 p4 p5)) (Then6 p0 p1 p2 p3 p4 p5) parts all a b (λ ts k. subst (λ u. Then6 p0 p1 p2 p3 p4 p5 u ts) same k)
    (spelled-Then p0 (Then5 p1 p2 p3 p4 p5) m0 (Row5 m1 m2 m3 m4 m5) h0 (spelled-Then5 p1 p2 p3 p4 p5 m1 m2 m3 m4 m5 h1 h2 h3 h4 h5) partial a b parts wide h)

pub spelled-Then7 : {A B C D E F G T : Type 0} (p0 : Spelling A T) (p1 : Spelling B T)
    (p2 : Spelling C T) (p3 : Spelling D T) (p4 : Spelling E T) (p5 : Spelling F T)
    (p6 : Spelling G T) (m0 : Meaning A T) (m1 : Meaning B T) (m2 : Meaning C T) (m3 : Meaning D T)
    (m4 : Meaning E T) (m5 : Meaning F T) (m6 : Meaning G T) → IsSpelled p0 m0 → IsSpelled p1 m1
    → IsSpelled p2 m2 → IsSpelled p3 m3 → IsSpelled p4 m4 → IsSpelled p5 m5 → IsSpelled p6 m6
    → IsSpelled (Then7 p0 p1 p2 p3 p4 p5 p6) (Row7 m0 m1 m2 m3 m4 m5 m6)
spelled-Then7 p0 p1 p2 p3 p4 p5 p6 m0 m1 m2 m3 m4 m5 m6 h0 h1 h2 h3 h4 h5 h6 partial a b all wide (parts, (same, h)) =
    takes-on (Then p0 (Then6 p1 p2 p3 p4 p5 p6)) (Then7 p0 p1 p2 p3 p4 p5 p6) parts all a b (λ ts k. subst (λ u. Then7 p0 p1 p2 p3 p4 p5 p6 u ts) same k)
    (spelled-Then p0 (Then6 p1 p2 p3 p4 p5 p6) m0 (Row6 m1 m2 m3 m4 m5 m6) h0 (spelled-Then6 p1 p2 p3 p4 p5 p6 m1 m2 m3 m4 m5 m6 h1 h2 h3 h4 h5 h6) partial a b parts wide h)

pub spelled-Then8 : {A B C D E F G H T : Type 0} (p0 : Spelling A T) (p1 : Spelling B T)
    (p2 : Spelling C T) (p3 : Spelling D T) (p4 : Spelling E T) (p5 : Spelling F T)
    (p6 : Spelling G T) (p7 : Spelling H T) (m0 : Meaning A T) (m1 : Meaning B T)
    (m2 : Meaning C T) (m3 : Meaning D T) (m4 : Meaning E T) (m5 : Meaning F T) (m6 : Meaning G T)
    (m7 : Meaning H T) → IsSpelled p0 m0 → IsSpelled p1 m1 → IsSpelled p2 m2 → IsSpelled p3 m3
    → IsSpelled p4 m4 → IsSpelled p5 m5 → IsSpelled p6 m6 → IsSpelled p7 m7
    → IsSpelled (Then8 p0 p1 p2 p3 p4 p5 p6 p7) (Row8 m0 m1 m2 m3 m4 m5 m6 m7)
spelled-Then8 p0 p1 p2 p3 p4 p5 p6 p7 m0 m1 m2 m3 m4 m5 m6 m7 h0 h1 h2 h3 h4 h5 h6 h7 partial a b all wide (parts, (same, h)) =
    takes-on (Then p0 (Then7 p1 p2 p3 p4 p5 p6 p7)) (Then8 p0 p1 p2 p3 p4 p5 p6 p7) parts all a b (λ ts k. subst (λ u. Then8 p0 p1 p2 p3 p4 p5 p6 p7 u ts) same k)
    (spelled-Then p0 (Then7 p1 p2 p3 p4 p5 p6 p7) m0 (Row7 m1 m2 m3 m4 m5 m6 m7) h0 (spelled-Then7 p1 p2 p3 p4 p5 p6 p7 m1 m2 m3 m4 m5 m6 m7 h1 h2 h3 h4 h5 h6 h7) partial a b parts wide h)

pub spelled-Then9 : {A B C D E F G H I T : Type 0} (p0 : Spelling A T) (p1 : Spelling B T)
    (p2 : Spelling C T) (p3 : Spelling D T) (p4 : Spelling E T) (p5 : Spelling F T)
    (p6 : Spelling G T) (p7 : Spelling H T) (p8 : Spelling I T) (m0 : Meaning A T)
    (m1 : Meaning B T) (m2 : Meaning C T) (m3 : Meaning D T) (m4 : Meaning E T) (m5 : Meaning F T)
    (m6 : Meaning G T) (m7 : Meaning H T) (m8 : Meaning I T) → IsSpelled p0 m0 → IsSpelled p1 m1
    → IsSpelled p2 m2 → IsSpelled p3 m3 → IsSpelled p4 m4 → IsSpelled p5 m5 → IsSpelled p6 m6
    → IsSpelled p7 m7 → IsSpelled p8 m8
    → IsSpelled (Then9 p0 p1 p2 p3 p4 p5 p6 p7 p8) (Row9 m0 m1 m2 m3 m4 m5 m6 m7 m8)
spelled-Then9 p0 p1 p2 p3 p4 p5 p6 p7 p8 m0 m1 m2 m3 m4 m5 m6 m7 m8 h0 h1 h2 h3 h4 h5 h6 h7 h8 partial a b all wide (parts, (same, h)) =
    takes-on (Then p0 (Then8 p1 p2 p3 p4 p5 p6 p7 p8)) (Then9 p0 p1 p2 p3 p4 p5 p6 p7 p8) parts all a b (λ ts k. subst (λ u. Then9 p0 p1 p2 p3 p4 p5 p6 p7 p8 u ts) same k)
    (spelled-Then p0 (Then8 p1 p2 p3 p4 p5 p6 p7 p8) m0 (Row8 m1 m2 m3 m4 m5 m6 m7 m8) h0 (spelled-Then8 p1 p2 p3 p4 p5 p6 p7 p8 m1 m2 m3 m4 m5 m6 m7 m8 h1 h2 h3 h4 h5 h6 h7 h8) partial a b parts wide h)

pub spelled-Then10 : {A B C D E F G H I J T : Type 0} (p0 : Spelling A T) (p1 : Spelling B T)
    (p2 : Spelling C T) (p3 : Spelling D T) (p4 : Spelling E T) (p5 : Spelling F T)
    (p6 : Spelling G T) (p7 : Spelling H T) (p8 : Spelling I T) (p9 : Spelling J T)
    (m0 : Meaning A T) (m1 : Meaning B T) (m2 : Meaning C T) (m3 : Meaning D T) (m4 : Meaning E T)
    (m5 : Meaning F T) (m6 : Meaning G T) (m7 : Meaning H T) (m8 : Meaning I T) (m9 : Meaning J T)
    → IsSpelled p0 m0 → IsSpelled p1 m1 → IsSpelled p2 m2 → IsSpelled p3 m3 → IsSpelled p4 m4
    → IsSpelled p5 m5 → IsSpelled p6 m6 → IsSpelled p7 m7 → IsSpelled p8 m8 → IsSpelled p9 m9
    → IsSpelled (Then10 p0 p1 p2 p3 p4 p5 p6 p7 p8 p9) (Row10 m0 m1 m2 m3 m4 m5 m6 m7 m8 m9)
spelled-Then10 p0 p1 p2 p3 p4 p5 p6 p7 p8 p9 m0 m1 m2 m3 m4 m5 m6 m7 m8 m9 h0 h1 h2 h3 h4 h5 h6 h7 h8 h9 partial a b all wide (parts, (same, h)) =
    takes-on (Then p0 (Then9 p1 p2 p3 p4 p5 p6 p7 p8 p9)) (Then10 p0 p1 p2 p3 p4 p5 p6 p7 p8 p9) parts all a b (λ ts k. subst (λ u. Then10 p0 p1 p2 p3 p4 p5 p6 p7 p8 p9 u ts) same k)
    (spelled-Then p0 (Then9 p1 p2 p3 p4 p5 p6 p7 p8 p9) m0 (Row9 m1 m2 m3 m4 m5 m6 m7 m8 m9) h0 (spelled-Then9 p1 p2 p3 p4 p5 p6 p7 p8 p9 m1 m2 m3 m4 m5 m6 m7 m8 m9 h1 h2 h3 h4 h5 h6 h7 h8 h9) partial a b parts wide h)
