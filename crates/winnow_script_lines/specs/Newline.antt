-- Where lines end.
use Rattle.std.specs.Prelude.{ℕ, ◌==◌, Bool, List}
use Rattle.std.specs.List.{before_first, after_first}

abbrev pub is_newline : ℕ → Bool
is_newline byte = byte == 10

-- the first line, without its newline
abbrev pub first_line : List ℕ → List ℕ
first_line text = before_first is_newline text

-- what follows the first line
abbrev pub rest_lines : List ℕ → List ℕ
rest_lines text = after_first is_newline text
