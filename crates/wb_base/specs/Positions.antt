-- Lines and columns of bytes: 10 is a line feed.
use Rattle.std.specs.Prelude.{◌≡◌, ℕ, ◌+◌, ◌==◌, ◌&&◌, nat_lt, Bool, if◌then◌else◌, List, ◌++◌, codes, decimal}
use Rattle.std.specs.List.{fold, count_by}
use Rattle.wb_base.specs.declared.position.Position.{Position}

-- how many line feeds the bytes have
abbrev pub line_feeds : List ℕ → ℕ
line_feeds bytes = count_by (λ byte. byte == 10) bytes

-- the byte goes on with a character of UTF-8
abbrev pub is_inside : ℕ → Bool
is_inside byte = nat_lt 127 byte && nat_lt byte 192

-- how many characters begin after the last line feed
abbrev pub next_column : ℕ → ℕ → ℕ
next_column n byte = if byte == 10 then 0 else (if is_inside byte then n else n + 1)

-- how many characters stand after the last line feed, which starts anew
abbrev pub after_feed : List ℕ → ℕ
after_feed bytes = fold next_column 0 bytes

-- the position after these bytes, both counted from 1
abbrev pub IsPositionAfter : List ℕ → Position → Type 0
IsPositionAfter bytes position =
    (position.line ≡ 1 + line_feeds bytes) × (position.column ≡ 1 + after_feed bytes)

-- the text of a position
abbrev pub position_text : Position → List ℕ
position_text position = decimal position.line ++ (codes ":" ++ decimal position.column)
