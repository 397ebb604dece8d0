-- The remaining lines of an input, and what a sequence of lines means.
use Rattle.std.specs.Prelude.{◌≡◌, ℕ, ◌+◌, List, [], ◌∷◌, length}
use Rattle.winnow_script_lines.specs.Newline.{first_line, rest_lines}
use Rattle.winnow_script_lines.specs.declared.lines.Lines.{Lines}

-- a number that no line's number exceeds, since each line has at least one byte
abbrev pub reach : Lines → ℕ
reach lines = lines.number + length lines.rest.now

-- the first lines of a text mean these items, one each and in order, and leave the rest
module _ {T : Type 0} (Denotes : List ℕ → T → Type 0) where
  abbrev pub AreLines : List ℕ → List T → List ℕ → Type 0
  AreLines text [] rest = text ≡ rest
  AreLines text (item ∷ items) rest =
      Denotes (first_line text) item × AreLines (rest_lines text) items rest
