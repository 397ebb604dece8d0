-- Slices that have the bytes of what was taken.
use Rattle.std.specs.Prelude.{◌≡◌, ℕ, List, IsTrue}
use Rattle.winnow_stream.specs.Source.{Source, units}
use Rattle.winnow_stream.specs.Front.{is_offset, front}
use Rattle.winnow_stream.specs.Text.{text_source}

-- the slice of width n of a list of bytes has the bytes of the front of that width
abbrev pub SlicesHaveBytes : {S : Type 0} → (S → Source ℕ → ℕ → Type 0) → (S → List ℕ) → Type 0
SlicesHaveBytes {S} is_slice bytes =
    (s : S) (r : Source ℕ) (n : ℕ) → IsTrue (is_offset r n) → is_slice s r n
    → units (bytes s) ≡ front r n

-- the slice of width n of a list of characters has the bytes of a text whose characters are that
-- front
abbrev pub SlicesHaveText : {S : Type 0} → (S → Source ℕ → ℕ → Type 0) → (S → List ℕ) → Type 0
SlicesHaveText {S} is_slice text_bytes =
    (s : S) (r : Source ℕ) (n : ℕ) → IsTrue (is_offset r n) → is_slice s r n
    → text_source (text_bytes s) ≡ front r n
