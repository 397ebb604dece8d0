-- The text of a whole parse's error: where it occurred, the line with a caret below the place, and
-- the inner error.
use Rattle.std.specs.Prelude.{◌+◌, ◌==◌, ℕ, List, [], ◌++◌, codes, count_by, length, replicate, slice_get, unwrap_or, if◌then◌else◌}
use Rattle.std.specs.Fmt.{decimal}
use Rattle.std.specs.List.{slice_split}
use Rattle.std.specs.Str.Lossy.{utf8_lossy}
use Rattle.winnow_error_parse.specs.Position.{is_newline, line_of, column_of}

abbrev pub spaces : ℕ → List ℕ
spaces n = replicate n 32

-- a line of the bytes, counted from 0, without its newline
abbrev pub nth_line : List ℕ → ℕ → List ℕ
nth_line bytes line = unwrap_or (slice_get (slice_split is_newline bytes) line) []

-- the text for bytes of one line: the bytes, and a caret below the offset
abbrev pub line_text : List ℕ → ℕ → List ℕ
line_text bytes offset = utf8_lossy bytes ++ codes "\n" ++ spaces offset ++ codes "^\n"

-- the text that says where the error occurred, with both numbers counted from 1
abbrev pub heading_text : ℕ → ℕ → List ℕ
heading_text number column = codes "parse error at line " ++ decimal number ++ codes ", column " ++ decimal column ++ codes "\n"

-- a margin as wide as the line's number
abbrev pub margin : ℕ → List ℕ
margin number = spaces (length (decimal number))

-- an empty line with a margin, then the line with its number
abbrev pub numbered_text : ℕ → List ℕ → List ℕ
numbered_text number line = margin number ++ codes " |\n" ++ decimal number ++ codes " | " ++ utf8_lossy line ++ codes "\n"

-- the caret below a column, counted from 0
abbrev pub caret_text : ℕ → ℕ → List ℕ
caret_text number column = margin number ++ codes " | " ++ spaces column ++ codes "^\n"

-- the text for bytes of several lines: where the error occurred, and that line with a caret
abbrev pub place_text : List ℕ → ℕ → ℕ → List ℕ
place_text bytes line column = heading_text (line + 1) (column + 1) ++ numbered_text (line + 1) (nth_line bytes line) ++ caret_text (line + 1) column

-- the text for any bytes: those without a newline as they are, and others by line and column
abbrev pub pointer_text : List ℕ → ℕ → List ℕ
pointer_text bytes offset =
    if count_by is_newline bytes == 0 then line_text bytes offset
    else place_text bytes (line_of bytes offset) (column_of bytes offset)
