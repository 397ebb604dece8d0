-- How long the pieces that lines mean can be.
use Rattle.std.proofs.Common.{ℕ, ◌+◌, ◌≤◌, List, [], ◌∷◌, length, sum_by, ap, inl, inr, arith, length-take, length-drop}
use Rattle.std.specs.List.{position_or_len}
use Rattle.std.proofs.lemmas.List.Sums.{sum_by-cons}
use Rattle.hex.proofs.HexLemmas.{decode_of-ok}
use Rattle.winnow_script_lines.specs.Inputs.{DenotesFed, piece_length}
use Rattle.winnow_script_lines.specs.Lines.{AreLines}
use Rattle.winnow_script_lines.specs.Literals.{DenotesBytes}
use Rattle.winnow_script_lines.specs.Newline.{is_newline, first_line, rest_lines}
use Rattle.winnow_script_lines.specs.Words.{is_space, later_words}
use Rattle.winnow_script_lines.specs.declared.fed_lines.FedLine.{FedLine}
use Rattle.winnow_script_lines.specs.declared.fed_lines.FedLine.TheVariants.{Piece, Waits}

-- the first line and the rest are together no longer than the text
length-lines : (text : List ℕ) → length (first_line text) + length (rest_lines text) ≤ length text
length-lines text =
    let at = position_or_len is_newline text in
    omega (arith, length-take at text, length-drop (at + 1) text)

-- the later words are no longer than the line
length-later_words : (line : List ℕ) → length (later_words line) ≤ length line
length-later_words line = omega (arith, length-drop (position_or_len is_space line + 1) line)

-- a word is no shorter than the bytes that it means
length-DenotesBytes : (word bytes : List ℕ) → DenotesBytes word bytes → length bytes ≤ length word
length-DenotesBytes word bytes told =
    elim told [
      | inl dash ↦ omega (arith, ap length dash.1)
      | inr digits ↦ omega (arith, (decode_of-ok word bytes digits.1).2)
    ]

-- a line is no shorter than the piece that it means
length-DenotesFed : {L : Type 0} (bytes : L → List ℕ) (line : List ℕ) (told : FedLine L)
    → DenotesFed bytes line told → piece_length bytes told ≤ length line
length-DenotesFed bytes line (Piece piece) told =
    omega (arith, length-DenotesBytes (later_words line) (bytes piece) told.1, length-later_words line)
length-DenotesFed bytes line Waits told = omega arith

-- the pieces that lines mean are together no longer than the lines
pub length-AreLines : {L : Type 0} (bytes : L
    → List ℕ) (text : List ℕ) (items : List (FedLine L)) (rest : List ℕ)
    → AreLines (DenotesFed bytes) text items rest → sum_by (piece_length bytes) items ≤ length text
length-AreLines bytes text [] rest lines = omega arith
length-AreLines bytes text (x ∷ items) rest lines =
    let here = length-DenotesFed bytes (first_line text) x lines.0 in
    let later = length-AreLines bytes (rest_lines text) items rest lines.1 in
    omega (arith, here, later, length-lines text, sum_by-cons (piece_length bytes) x items)
