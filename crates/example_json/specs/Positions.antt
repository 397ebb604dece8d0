-- Lines and columns of bytes: 10 is a line feed.
use Rattle.std.specs.Prelude.{◌≡◌, ℕ, ◌+◌, ◌≤◌, ◌==◌, if◌then◌else◌, List, ◌++◌, length, take, codes, decimal}
use Rattle.std.specs.List.{fold, count_by}
use Rattle.example_json.specs.declared.positions.Position.{Position}
use Rattle.example_json.specs.declared.positions.Line.{Line}

-- how many line feeds the bytes have
abbrev pub line_feeds : List ℕ → ℕ
line_feeds bytes = count_by (λ byte. byte == 10) bytes

-- how many bytes stand after the last line feed: a line feed starts anew, any other byte adds one
abbrev pub after_feed : List ℕ → ℕ
after_feed bytes = fold (λ n byte. if byte == 10 then 0 else n + 1) 0 bytes

-- the position after these bytes, both counted from 1
abbrev pub IsPositionAfter : List ℕ → Position → Type 0
IsPositionAfter bytes position =
    (position.line ≡ 1 + line_feeds bytes) × (position.column ≡ 1 + after_feed bytes)

-- the place is within the input, and this is its position
abbrev pub IsPlaced : List ℕ → ℕ → Position → Type 0
IsPlaced input place position =
    (place ≤ length input) × IsPositionAfter (take place input) position

-- the line is the one to which these bytes lead: it counts them, their line feeds, and those before
-- the last line begins
pub record LeadsTo (bytes : List ℕ) (line : Line) : Type 0 where
  pub counted : line.bytes ≡ length bytes
  pub feeds : line.ended ≡ line_feeds bytes
  pub begins : line.start + after_feed bytes ≡ length bytes

-- no more lines end before the bytes than there are bytes, and the last one begins among them
pub record IsWithin (line : Line) : Type 0 where
  pub lines : line.ended ≤ line.bytes
  pub begins : line.start ≤ line.bytes

-- the text of a position
abbrev pub position_text : Position → List ℕ
position_text position =
    codes "line " ++ decimal position.line ++ codes ", column " ++ decimal position.column
