-- The position of an offset into bytes: its line, and its column in the line, both counted from 0.
use Rattle.std.specs.Prelude.{◌+◌, ◌-◌, ◌==◌, ℕ, Bool, List, length, take, slice_range, count_by, min, not, if◌then◌else◌}
use Rattle.std.specs.List.{suffix_len}
use Rattle.std.specs.Str.{chars, is_utf8}

-- whether a byte is a newline
abbrev pub is_newline : ℕ → Bool
is_newline byte = byte == 10

-- where the line begins in which the bytes end: one past the last newline, or 0
abbrev pub line_start : List ℕ → ℕ
line_start before = length before - suffix_len (λ byte. not (is_newline byte)) before

-- the column of the last character of a part of a line, or of its last byte if the part is not
-- UTF-8
abbrev pub last_column : List ℕ → ℕ
last_column part = (if is_utf8 part then length (chars part) else length part) - 1

-- the offset, or that of the last byte if the offset is after it
abbrev pub place_of : List ℕ → ℕ → ℕ
place_of bytes offset = min offset (length bytes - 1)

-- the line: the number of newlines before the place
abbrev pub line_of : List ℕ → ℕ → ℕ
line_of bytes offset = count_by is_newline (take (place_of bytes offset) bytes)

-- the column: that of the place in its line, plus the distance from the place to the offset
abbrev pub column_of : List ℕ → ℕ → ℕ
column_of bytes offset =
    let place = place_of bytes offset in
    last_column (slice_range bytes (line_start (take place bytes)) (place + 1)) + (offset - place)
