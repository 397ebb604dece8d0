-- Three to ten values in a row.
use Rattle.winnow_grammar.specs.Spelling.{Spelling}
use Rattle.winnow_grammar.specs.Spellings.{Then}

-- three values in a row
abbrev pub Then3 : {A B C T : Type 0} → Spelling A T → Spelling B T → Spelling C T
    → Spelling (A × B × C) T
Then3 a b c all = Then a (Then b c) (all.0, (all.1, all.2))

-- four values in a row
abbrev pub Then4 : {A B C D T : Type 0} → Spelling A T → Spelling B T → Spelling C T → Spelling D T
    → Spelling (A × B × C × D) T
Then4 a b c d all = Then a (Then3 b c d) (all.0, (all.1, all.2, all.3))

-- five values in a row
abbrev pub Then5 : {A B C D E T : Type 0} → Spelling A T → Spelling B T → Spelling C T
    → Spelling D T → Spelling E T → Spelling (A × B × C × D × E) T
Then5 a b c d e all = Then a (Then4 b c d e) (all.0, (all.1, all.2, all.3, all.4))

-- six values in a row
abbrev pub Then6 : {A B C D E F T : Type 0} → Spelling A T → Spelling B T → Spelling C T
    → Spelling D T → Spelling E T → Spelling F T → Spelling (A × B × C × D × E × F) T
Then6 a b c d e f all = Then a (Then5 b c d e f) (all.0, (all.1, all.2, all.3, all.4, all.5))

-- seven values in a row
abbrev pub Then7 : {A B C D E F G T : Type 0} → Spelling A T → Spelling B T → Spelling C T
    → Spelling D T → Spelling E T → Spelling F T → Spelling G T
    → Spelling (A × B × C × D × E × F × G) T
Then7 a b c d e f g all = Then a (Then6 b c d e f g)
    (all.0, (all.1, all.2, all.3, all.4, all.5, all.6))

-- eight values in a row
abbrev pub Then8 : {A B C D E F G H T : Type 0} → Spelling A T → Spelling B T → Spelling C T
    → Spelling D T → Spelling E T → Spelling F T → Spelling G T → Spelling H T
    → Spelling (A × B × C × D × E × F × G × H) T
Then8 a b c d e f g h all = Then a (Then7 b c d e f g h)
    (all.0, (all.1, all.2, all.3, all.4, all.5, all.6, all.7))

-- nine values in a row
abbrev pub Then9 : {A B C D E F G H I T : Type 0} → Spelling A T → Spelling B T → Spelling C T
    → Spelling D T → Spelling E T → Spelling F T → Spelling G T → Spelling H T → Spelling I T
    → Spelling (A × B × C × D × E × F × G × H × I) T
Then9 a b c d e f g h i all = Then a (Then8 b c d e f g h i)
    (all.0, (all.1, all.2, all.3, all.4, all.5, all.6, all.7, all.8))

-- ten values in a row
abbrev pub Then10 : {A B C D E F G H I J T : Type 0} → Spelling A T → Spelling B T → Spelling C T
    → Spelling D T → Spelling E T → Spelling F T → Spelling G T → Spelling H T → Spelling I T
    → Spelling J T → Spelling (A × B × C × D × E × F × G × H × I × J) T
Then10 a b c d e f g h i j all = Then a (Then9 b c d e f g h i j)
    (all.0, (all.1, all.2, all.3, all.4, all.5, all.6, all.7, all.8, all.9))
