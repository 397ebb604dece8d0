-- Records as lines: 92 is a backslash, 9 a tab, 10 a line feed, and 13 a carriage return.
use Rattle.std.specs.Prelude.{ℕ, ◌==◌, if◌then◌else◌, List, [], ◌∷◌, ◌++◌}
use Rattle.std.specs.List.{flat_map}

-- how a byte of a field is written: those four in two bytes, any other as it stands
abbrev pub escape : ℕ → List ℕ
escape byte =
    if byte == 92 then 92 ∷ 92 ∷ [] else (if byte == 9 then 92 ∷ 116 ∷ [] else
    (if byte == 10 then 92 ∷ 110 ∷ [] else (if byte == 13 then 92 ∷ 114 ∷ [] else byte ∷ [])))

-- how a field is written
abbrev pub escaped : List ℕ → List ℕ
escaped value = flat_map escape value

-- how fields are written: with tabs between them
abbrev pub tabbed : List (List ℕ) → List ℕ
tabbed [] = []
tabbed (value ∷ values) = escaped value ++ flat_map (λ next. 9 ∷ escaped next) values

-- a record as a line: its fields, and a line feed at the end
abbrev pub line_of : List (List ℕ) → List ℕ
line_of values = tabbed values ++ 10 ∷ []
