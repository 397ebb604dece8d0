-- A slice and the whole list from which it was taken.
use Rattle.std.specs.Prelude.{ℕ}
use Rattle.winnow_stream.specs.Source.{Source}

-- s is the slice of width n of r, and says of the whole of r what a slice of that stream says
abbrev pub IsSliceFrom : {S T : Type 0} → (S → Source T → ℕ → Type 0)
    → (S → Source T → ℕ → Type 0) → S → Source T → ℕ → Type 0
IsSliceFrom is_slice slice_from s r n = is_slice s r n × slice_from s r n
