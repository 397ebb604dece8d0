-- The front of a text, which stands for the text in a line.
use Rattle.std.specs.Prelude.{◌==◌, ℕ, List, [], ◌++◌, codes, encode_utf8_all, if◌then◌else◌, take, take_while, not, length, nat_lt}

-- the first k characters of the first line
abbrev pub front_of_line : ℕ → List ℕ → List ℕ
front_of_line k cs = take k (take_while (λ c. not (c == 10)) cs)

-- that front, then three dots if it is not the whole text
abbrev pub abbreviation : ℕ → List ℕ → List ℕ
abbreviation k cs = encode_utf8_all (front_of_line k cs) ++ (if nat_lt (length (front_of_line k cs)) (length cs) then codes "..." else [])
