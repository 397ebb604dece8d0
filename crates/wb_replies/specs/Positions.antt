-- Places in an input, by bytes, lines, columns and characters.
use Rattle.std.specs.Prelude.{ℕ, ◌+◌, ◌-◌, ◌≤◌, ◌==◌, List, [], ◌∷◌, if◌then◌else◌}
use Rattle.wb_base.specs.Positions.{is_inside}
use Rattle.wb_replies.specs.declared.positions.Position.{Position}

-- the place before all bytes
abbrev pub start : Position
start = record { byte = 0; line = 1; column = 1; character = 1 }

-- how many characters begin with this byte
abbrev pub characters_in : ℕ → ℕ
characters_in b = if is_inside b then 0 else 1

-- the place after one byte more: after a line feed it is the first of the next line
abbrev pub next : Position → ℕ → Position
next p b = record {
  byte = p.byte + 1;
  line = if b == 10 then p.line + 1 else p.line;
  column = if b == 10 then 1 else p.column + 1;
  character = if b == 10 then 1 else p.character + characters_in b;
}

-- the place after some bytes more
abbrev pub position_after : Position → List ℕ → Position
position_after p [] = p
position_after p (b ∷ bytes) = position_after (next p b) bytes

-- the place that is as far from the first one as the second is from the start
abbrev pub joined_with : Position → Position → Position
joined_with p q = record {
  byte = p.byte + q.byte;
  line = p.line + (q.line - 1);
  column = if q.line == 1 then p.column + (q.column - 1) else q.column;
  character = if q.line == 1 then p.character + (q.character - 1) else q.character;
}

-- there are no more lines than bytes before the place, and no more columns or characters, but for
-- the first
pub record IsPosition (p : Position) : Type 0 where
  pub a_line : 1 ≤ p.line
  pub lines : p.line ≤ p.byte + 1
  pub a_column : 1 ≤ p.column
  pub columns : p.column ≤ p.byte + 1
  pub a_character : 1 ≤ p.character
  pub characters : p.character ≤ p.byte + 1
