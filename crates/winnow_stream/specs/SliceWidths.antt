-- Slices whose length is the offset at which they were taken.
use Rattle.std.specs.Prelude.{◌≡◌, ℕ, IsTrue}
use Rattle.winnow_stream.specs.Source.{Source}
use Rattle.winnow_stream.specs.Front.{is_offset}

-- each slice of width n of a list has a length, and the length is n
abbrev pub SlicesHaveWidths : {S T : Type 0} → (S → Source T → ℕ → Type 0) → (S → Type 0) → (S → ℕ)
    → Type 0
SlicesHaveWidths {S} {T} is_slice has_width width_of =
    (s : S) (r : Source T) (n : ℕ) → IsTrue (is_offset r n) → is_slice s r n
    → has_width s × (width_of s ≡ n)
