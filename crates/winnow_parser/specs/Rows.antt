-- Parsers in a row: the values of all, as one tuple.
use Rattle.std.specs.Prelude.{◌≡◌}
use Rattle.winnow_parser.specs.Outcome.{Meaning}
use Rattle.winnow_parser.specs.Laws.{IsParser}
use Rattle.winnow_parser.specs.Meanings.{Maps, Pair}
use Rattle.winnow_parser.specs.Parts.{IsParser-Maps, IsParser-Pair}

-- two parsers in a row, of whose values one is made, keep the laws of a parser
pub IsParser-joined : {A B O T : Type 0} (joins : A × B → O → Type 0) {a : Meaning A T}
    {b : Meaning B T}
    → IsParser a → IsParser b → IsParser (Maps joins (Pair a b))
IsParser-joined joins {a} {b} pa pb = IsParser-Maps joins (Pair a b) (IsParser-Pair a b pa pb)

-- the first value and the tuple of the others, as one tuple of three
abbrev pub Flat3 : {A B C : Type 0} → A × (B × C) → A × B × C → Type 0
Flat3 p all = (p.0, p.1.0, p.1.1) ≡ all

-- three parsers, one after the other: their values
abbrev pub Row3 : {A B C T : Type 0} → Meaning A T → Meaning B T → Meaning C T
    → Meaning (A × B × C) T
Row3 a b c = Maps Flat3 (Pair a (Pair b c))

-- three parsers in a row keep the laws of a parser
pub IsParser-Row3 : {A B C T : Type 0} (a : Meaning A T) (b : Meaning B T) (c : Meaning C T)
    → IsParser a → IsParser b → IsParser c → IsParser (Row3 a b c)
IsParser-Row3 a b c pa pb pc = IsParser-joined Flat3 pa (IsParser-Pair b c pb pc)

-- the first value and the tuple of the others, as one tuple of four
abbrev pub Flat4 : {A B C D : Type 0} → A × (B × C × D) → A × B × C × D → Type 0
Flat4 p all = (p.0, p.1.0, p.1.1, p.1.2) ≡ all

-- four parsers, one after the other: their values
abbrev pub Row4 : {A B C D T : Type 0} → Meaning A T → Meaning B T → Meaning C T → Meaning D T
    → Meaning (A × B × C × D) T
Row4 a b c d = Maps Flat4 (Pair a (Row3 b c d))

-- four parsers in a row keep the laws of a parser
pub IsParser-Row4 : {A B C D T : Type 0} (a : Meaning A T) (b : Meaning B T) (c : Meaning C T)
    (d : Meaning D T) → IsParser a → IsParser b → IsParser c → IsParser d → IsParser (Row4 a b c d)
IsParser-Row4 a b c d pa pb pc pd = IsParser-joined Flat4 pa (IsParser-Row3 b c d pb pc pd)

-- the first value and the tuple of the others, as one tuple of five
abbrev pub Flat5 : {A B C D E : Type 0} → A × (B × C × D × E) → A × B × C × D × E → Type 0
Flat5 p all = (p.0, p.1.0, p.1.1, p.1.2, p.1.3) ≡ all

-- five parsers, one after the other: their values
abbrev pub Row5 : {A B C D E T : Type 0} → Meaning A T → Meaning B T → Meaning C T → Meaning D T
    → Meaning E T → Meaning (A × B × C × D × E) T
Row5 a b c d e = Maps Flat5 (Pair a (Row4 b c d e))

-- five parsers in a row keep the laws of a parser
pub IsParser-Row5 : {A B C D E T : Type 0} (a : Meaning A T) (b : Meaning B T) (c : Meaning C T)
    (d : Meaning D T) (e : Meaning E T) → IsParser a → IsParser b → IsParser c → IsParser d
    → IsParser e → IsParser (Row5 a b c d e)
IsParser-Row5 a b c d e pa pb pc pd pe = IsParser-joined Flat5 pa (IsParser-Row4 b c d e pb pc pd pe)

-- the first value and the tuple of the others, as one tuple of six
abbrev pub Flat6 : {A B C D E F : Type 0} → A × (B × C × D × E × F) → A × B × C × D × E × F → Type 0
Flat6 p all = (p.0, p.1.0, p.1.1, p.1.2, p.1.3, p.1.4) ≡ all

-- six parsers, one after the other: their values
abbrev pub Row6 : {A B C D E F T : Type 0} → Meaning A T → Meaning B T → Meaning C T → Meaning D T
    → Meaning E T → Meaning F T → Meaning (A × B × C × D × E × F) T
Row6 a b c d e f = Maps Flat6 (Pair a (Row5 b c d e f))

-- six parsers in a row keep the laws of a parser
pub IsParser-Row6 : {A B C D E F T : Type 0} (a : Meaning A T) (b : Meaning B T) (c : Meaning C T)
    (d : Meaning D T) (e : Meaning E T) (f : Meaning F T) → IsParser a → IsParser b → IsParser c
    → IsParser d → IsParser e → IsParser f → IsParser (Row6 a b c d e f)
IsParser-Row6 a b c d e f pa pb pc pd pe pf = IsParser-joined Flat6 pa (IsParser-Row5 b c d e f pb pc pd pe pf)

-- the first value and the tuple of the others, as one tuple of seven
abbrev pub Flat7 : {A B C D E F G : Type 0} → A × (B × C × D × E × F × G)
    → A × B × C × D × E × F × G → Type 0
Flat7 p all = (p.0, p.1.0, p.1.1, p.1.2, p.1.3, p.1.4, p.1.5) ≡ all

-- seven parsers, one after the other: their values
abbrev pub Row7 : {A B C D E F G T : Type 0} → Meaning A T → Meaning B T → Meaning C T
    → Meaning D T → Meaning E T → Meaning F T → Meaning G T → Meaning (A × B × C × D × E × F × G) T
Row7 a b c d e f g = Maps Flat7 (Pair a (Row6 b c d e f g))

-- seven parsers in a row keep the laws of a parser
pub IsParser-Row7 : {A B C D E F G T : Type 0} (a : Meaning A T) (b : Meaning B T)
    (c : Meaning C T) (d : Meaning D T) (e : Meaning E T) (f : Meaning F T) (g : Meaning G T)
    → IsParser a → IsParser b → IsParser c → IsParser d → IsParser e → IsParser f → IsParser g
    → IsParser (Row7 a b c d e f g)
IsParser-Row7 a b c d e f g pa pb pc pd pe pf pg = IsParser-joined Flat7 pa (IsParser-Row6 b c d e f g pb pc pd pe pf pg)

-- the first value and the tuple of the others, as one tuple of eight
abbrev pub Flat8 : {A B C D E F G H : Type 0} → A × (B × C × D × E × F × G × H)
    → A × B × C × D × E × F × G × H → Type 0
Flat8 p all = (p.0, p.1.0, p.1.1, p.1.2, p.1.3, p.1.4, p.1.5, p.1.6) ≡ all

-- eight parsers, one after the other: their values
abbrev pub Row8 : {A B C D E F G H T : Type 0} → Meaning A T → Meaning B T → Meaning C T
    → Meaning D T → Meaning E T → Meaning F T → Meaning G T → Meaning H T
    → Meaning (A × B × C × D × E × F × G × H) T
Row8 a b c d e f g h = Maps Flat8 (Pair a (Row7 b c d e f g h))

-- eight parsers in a row keep the laws of a parser
pub IsParser-Row8 : {A B C D E F G H T : Type 0} (a : Meaning A T) (b : Meaning B T)
    (c : Meaning C T) (d : Meaning D T) (e : Meaning E T) (f : Meaning F T) (g : Meaning G T)
    (h : Meaning H T) → IsParser a → IsParser b → IsParser c → IsParser d → IsParser e → IsParser f
    → IsParser g → IsParser h → IsParser (Row8 a b c d e f g h)
IsParser-Row8 a b c d e f g h pa pb pc pd pe pf pg ph = IsParser-joined Flat8 pa (IsParser-Row7 b c d e f g h pb pc pd pe pf pg ph)

-- the first value and the tuple of the others, as one tuple of nine
abbrev pub Flat9 : {A B C D E F G H I : Type 0} → A × (B × C × D × E × F × G × H × I)
    → A × B × C × D × E × F × G × H × I → Type 0
Flat9 p all = (p.0, p.1.0, p.1.1, p.1.2, p.1.3, p.1.4, p.1.5, p.1.6, p.1.7) ≡ all

-- nine parsers, one after the other: their values
abbrev pub Row9 : {A B C D E F G H I T : Type 0} → Meaning A T → Meaning B T → Meaning C T
    → Meaning D T → Meaning E T → Meaning F T → Meaning G T → Meaning H T → Meaning I T
    → Meaning (A × B × C × D × E × F × G × H × I) T
Row9 a b c d e f g h i = Maps Flat9 (Pair a (Row8 b c d e f g h i))

-- nine parsers in a row keep the laws of a parser
pub IsParser-Row9 : {A B C D E F G H I T : Type 0} (a : Meaning A T) (b : Meaning B T)
    (c : Meaning C T) (d : Meaning D T) (e : Meaning E T) (f : Meaning F T) (g : Meaning G T)
    (h : Meaning H T) (i : Meaning I T) → IsParser a → IsParser b → IsParser c → IsParser d
    → IsParser e → IsParser f → IsParser g → IsParser h → IsParser i
    → IsParser (Row9 a b c d e f g h i)
IsParser-Row9 a b c d e f g h i pa pb pc pd pe pf pg ph pi = IsParser-joined Flat9 pa (IsParser-Row8 b c d e f g h i pb pc pd pe pf pg ph pi)

-- the first value and the tuple of the others, as one tuple of ten
abbrev pub Flat10 : {A B C D E F G H I J : Type 0} → A × (B × C × D × E × F × G × H × I × J)
    → A × B × C × D × E × F × G × H × I × J → Type 0
Flat10 p all = (p.0, p.1.0, p.1.1, p.1.2, p.1.3, p.1.4, p.1.5, p.1.6, p.1.7, p.1.8) ≡ all

-- ten parsers, one after the other: their values
abbrev pub Row10 : {A B C D E F G H I J T : Type 0} → Meaning A T → Meaning B T → Meaning C T
    → Meaning D T → Meaning E T → Meaning F T → Meaning G T → Meaning H T → Meaning I T
    → Meaning J T → Meaning (A × B × C × D × E × F × G × H × I × J) T
Row10 a b c d e f g h i j = Maps Flat10 (Pair a (Row9 b c d e f g h i j))

-- ten parsers in a row keep the laws of a parser
pub IsParser-Row10 : {A B C D E F G H I J T : Type 0} (a : Meaning A T) (b : Meaning B T)
    (c : Meaning C T) (d : Meaning D T) (e : Meaning E T) (f : Meaning F T) (g : Meaning G T)
    (h : Meaning H T) (i : Meaning I T) (j : Meaning J T) → IsParser a → IsParser b → IsParser c
    → IsParser d → IsParser e → IsParser f → IsParser g → IsParser h → IsParser i → IsParser j
    → IsParser (Row10 a b c d e f g h i j)
IsParser-Row10 a b c d e f g h i j pa pb pc pd pe pf pg ph pi pj = IsParser-joined Flat10 pa (IsParser-Row9 b c d e f g h i j pb pc pd pe pf pg ph pi pj)
