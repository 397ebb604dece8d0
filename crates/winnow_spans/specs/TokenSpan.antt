-- The range of tokens that know where they stand.
use Rattle.std.specs.Prelude.{◌≡◌, ℕ, ◌-◌, List, length, slice_get, Option, Some, None, ⊤}
use Rattle.std.specs.declared.ops.Range.{Range}

module _ {T : Type 0} (starts ends : T → ℕ) where
  -- from where the first token starts to where the last one ends
  abbrev pub range_between : Option T → Option T → Option (Range ℕ)
  range_between (Some first) (Some last) = Some (record { start = starts first; end = ends last })
  range_between (Some first) None = None
  range_between None last = None

  -- that range of a list, if it has a token
  abbrev pub span_of : List T → Option (Range ℕ)
  span_of tokens = range_between (slice_get tokens 0) (slice_get tokens (length tokens - 1))

-- it is the range, if there is one
abbrev pub IsSpan : Option (Range ℕ) → Range ℕ → Type 0
IsSpan (Some span) range = span ≡ range
IsSpan None range = ⊤

module _ {S : Type 0} (span : S → Option (Range ℕ)) where
  -- the range is the span of the slice
  abbrev pub IsTokenSpan : S → Range ℕ → Type 0
  IsTokenSpan slice range = IsSpan (span slice) range

  -- the value of both, and the span of the slice
  abbrev pub HasTokenSpan : {O : Type 0} → O × S → O × Range ℕ → Type 0
  HasTokenSpan taken both = (taken.0 ≡ both.0) × IsSpan (span taken.1) both.1
