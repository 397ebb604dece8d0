-- Ranges of counts: a least count, and perhaps a greatest.
use Rattle.std.specs.Prelude.{◌≡◌, ℕ, nat_le, Bool, true, ◌&&◌, List, ◌++◌, Option, Some, None, if◌then◌else◌, ◌==◌, codes, decimal}
use Rattle.winnow_count.specs.declared.range.Range.{Range}

-- the least count, and the greatest if there is one
abbrev pub least_count : Range → ℕ
least_count range = range.least

abbrev pub greatest_count : Range → Option ℕ
greatest_count range = range.greatest

-- the range goes from this least count to this greatest, if there is one
abbrev pub HasCounts : ℕ → Option ℕ → Range → Type 0
HasCounts least greatest range = (least_count range ≡ least) × (greatest_count range ≡ greatest)

-- n is no more than the greatest, if there is one
abbrev pub is_up_to : Option ℕ → ℕ → Bool
is_up_to None n = true
is_up_to (Some greatest) n = nat_le n greatest

-- the range allows the count n
abbrev pub allows_count : Range → ℕ → Bool
allows_count range n = nat_le (least_count range) n && is_up_to (greatest_count range) n

-- the least count; then `..` if there is no greatest, nothing if it is the least, and else `..=`
-- and the greatest
abbrev pub counts_text : ℕ → Option ℕ → List ℕ
counts_text least None = decimal least ++ codes ".."
counts_text least (Some greatest) =
    if greatest == least then decimal least else decimal least ++ codes "..=" ++ decimal greatest

-- the text that a range prints
abbrev pub range_text : Range → List ℕ
range_text range = counts_text (least_count range) (greatest_count range)
