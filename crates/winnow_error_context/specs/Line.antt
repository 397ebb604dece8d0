-- A line of a printed text that may be absent.
use Rattle.std.specs.Prelude.{Bool, true, false, ℕ, List, [], ◌++◌, Option, Some, None, codes}
use Rattle.std.specs.Fmt.{◌++?◌}

-- the line, after a newline if another line stands before it
abbrev pub behind_newline : Bool → List ℕ → List ℕ
behind_newline true line = codes "\n" ++ line
behind_newline false line = line

-- what a line prints: nothing if it is absent; else its start and its text, if it is known what the
-- text prints
abbrev pub line_output : Bool → List ℕ → Option (Option (List ℕ)) → Option (List ℕ)
line_output is_later start None = Some []
line_output is_later start (Some text) = Some (behind_newline is_later start) ++? text
