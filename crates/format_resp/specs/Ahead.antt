-- Bytes with which a source begins.
use Rattle.std.specs.Prelude.{◌≡◌, ℕ, List, ◌++◌}
use Rattle.winnow_stream.specs.Source.{Source}
use Rattle.format_lemmas.specs.Bytes.{bytes_of}

-- the source is these bytes, and then the rest
abbrev pub IsAhead : Source ℕ → List ℕ → Source ℕ → Type 0
IsAhead whole bytes rest = (front : Source ℕ) × ((whole ≡ front ++ rest) × (bytes_of front ≡ bytes))
