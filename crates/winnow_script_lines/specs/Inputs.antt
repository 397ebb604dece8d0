-- The lines of the kind and of the input.
use Rattle.std.specs.Prelude.{◌≡◌, ℕ, List, ◌∷◌, codes, length, ⊤}
use Rattle.winnow_script_lines.specs.Literals.{DenotesBytes}
use Rattle.winnow_script_lines.specs.Words.{first_word, later_words}
use Rattle.winnow_script_lines.specs.declared.fed_lines.FedLine.{FedLine}
use Rattle.winnow_script_lines.specs.declared.fed_lines.FedLine.TheVariants.{Piece, Waits}
use Rattle.winnow_script_lines.specs.declared.inputs.Kind.{Kind}
use Rattle.winnow_script_lines.specs.declared.inputs.Kind.TheVariants.{Bytes, Text, BytePieces, TextPieces}

-- the word for a kind of input
abbrev pub kind_word : Kind → List ℕ
kind_word Bytes = codes "bytes"
kind_word Text = codes "text"
kind_word BytePieces = codes "byte-pieces"
kind_word TextPieces = codes "text-pieces"

-- the line is the word of this kind
abbrev pub DenotesKind : List ℕ → Kind → Type 0
DenotesKind line kind = line ≡ kind_word kind

-- the line means the bytes of this literal: it is the name, a space, and the word for the bytes
abbrev pub DenotesNamed : {L : Type 0} → (L → List ℕ) → List ℕ → List ℕ → L → Type 0
DenotesNamed bytes name line literal =
    (first_word line ≡ name) × DenotesBytes (later_words line) (bytes literal)

-- the line of an input in pieces means this: a piece, or the question what is waited for
module _ {L : Type 0} (bytes : L → List ℕ) where
  abbrev pub DenotesFed : List ℕ → FedLine L → Type 0
  DenotesFed line (Piece piece) = DenotesNamed bytes (codes "piece") line piece
  DenotesFed line Waits = line ≡ codes "waits"

  -- the number of bytes in the piece of a line
  abbrev pub piece_length : FedLine L → ℕ
  piece_length (Piece piece) = length (bytes piece)
  piece_length Waits = 0

-- no question stands before the first piece
abbrev pub BeginsWithPiece : {L : Type 0} → List (FedLine L) → Type 0
BeginsWithPiece (Waits ∷ lines) = ⊥
BeginsWithPiece _ = ⊤
