-- Lines and columns of bytes: 10 is a line feed.
use Rattle.std.specs.Prelude.{◌≡◌, ℕ, ◌+◌, ◌==◌, if◌then◌else◌, List, ◌++◌, codes, decimal}
use Rattle.std.specs.List.{fold, count_by, sum_by}
use Rattle.std.specs.declared.vec.Vec.{Vec}
use Rattle.std.specs.declared.alloc.Global.{Global}
use Rattle.example_csv.specs.declared.positions.Position.{Position}

-- how many line feeds the bytes have
abbrev pub line_feeds : List ℕ → ℕ
line_feeds bytes = count_by (λ byte. byte == 10) bytes

-- how many bytes stand after the last line feed: a line feed starts anew, any other byte adds one
abbrev pub after_feed : List ℕ → ℕ
after_feed bytes = fold (λ n byte. if byte == 10 then 0 else n + 1) 0 bytes

-- the position after these bytes, both counted from 1
abbrev pub IsPositionAfter : List ℕ → Position → Type 0
IsPositionAfter bytes position =
    (position.line ≡ 1 + line_feeds bytes) × (position.column ≡ 1 + after_feed bytes)

-- how many line feeds a record takes: those in its fields, and the one at its end
abbrev pub feeds_of : List (Vec ℕ Global) → ℕ
feeds_of fields = 1 + sum_by (λ field. line_feeds field.items) fields

-- the text of a position
abbrev pub position_text : Position → List ℕ
position_text position =
    codes "line " ++ decimal position.line ++ codes ", column " ++ decimal position.column
