-- The bytes that a source stands for.
use Rattle.std.specs.Prelude.{ℕ, List, [], ◌∷◌, ◌++◌}
use Rattle.std.specs.Char.{encode_utf8}
use Rattle.winnow_stream.specs.Source.{Source}

-- the bytes of the tokens in a row
abbrev pub written : {T : Type 0} → (T → List ℕ) → Source T → List ℕ
written write [] = []
written write (x ∷ xs) = write x.0 ++ written write xs

-- the bytes of a source of bytes
abbrev pub bytes_of : Source ℕ → List ℕ
bytes_of r = written (λ byte. byte ∷ []) r

-- the bytes of a source of characters, in UTF-8
abbrev pub utf8_of : Source ℕ → List ℕ
utf8_of r = written encode_utf8 r
