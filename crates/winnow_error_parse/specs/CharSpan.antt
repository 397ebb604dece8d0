-- The span of the character at an offset into bytes, found by the bytes with which characters
-- begin.
use Rattle.std.specs.Prelude.{◌<◌, ◌+◌, ◌-◌, ◌==◌, ◌||◌, ℕ, Bool, List, length, take, drop, min, not, nat_lt, nat_le, if◌then◌else◌}
use Rattle.std.specs.List.{suffix_len, position_or_len}
use Rattle.std.specs.Str.{IsCharBoundary}
use Rattle.std.specs.declared.ops.Range.{Range}

-- whether a byte is outside 128..=191, the bytes that follow the first one of a character
abbrev pub is_boundary : ℕ → Bool
is_boundary byte = nat_lt byte 128 || nat_le 192 byte

-- the place of the last boundary in the bytes, or 0 if there is none
abbrev pub last_boundary : List ℕ → ℕ
last_boundary bytes = length bytes - suffix_len (λ byte. not (is_boundary byte)) bytes - 1

-- from the last boundary up to the offset, or 0, to the first boundary after the offset, or the
-- end; the span is empty at the end
abbrev pub char_span : List ℕ → ℕ → Range ℕ
char_span bytes offset =
    if offset == length bytes then record { start = offset; end = offset }
    else record {
      start = last_boundary (take (offset + 1) bytes);
      end = min (offset + 1) (length bytes) + position_or_len is_boundary (drop (offset + 1) bytes);
    }

-- a character of a text begins at `start`, and the next one, or the end of the text, is at `end`
pub record IsCharAt (text : List ℕ) (start end : ℕ) : Type 0 where
  pub begins : IsCharBoundary text start
  pub ends : IsCharBoundary text end
  pub whole : (k : ℕ) → start < k → k < end → ¬ (IsCharBoundary text k)
