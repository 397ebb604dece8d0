-- The lines of a run over pieces.
use Rattle.std.specs.Prelude.{◌≡◌, ℕ, List, [], ◌∷◌, ◌++◌, length, drop, flat_map, codes, decimal}
use Rattle.winnow_script_attempt.specs.declared.told.Told.{Told}
use Rattle.winnow_script_feed.specs.Inputs.{PieceStep, InputRules}
use Rattle.winnow_script_feed.specs.ToldAnswers.{capped, told_of, told_to_end}
use Rattle.winnow_script_feed.specs.Waits.{WaitsFor}
use Rattle.winnow_script_feed.specs.declared.waiting.Waiting.{Waiting}
use Rattle.winnow_script_feed.specs.declared.waiting.Waiting.TheVariants.{NotFed, NotWaiting, Until, ToEnd}
use Rattle.winnow_script_lines.specs.declared.fed_lines.FedLine.{FedLine}
use Rattle.winnow_script_lines.specs.declared.fed_lines.FedLine.TheVariants.{Piece, Waits}
use Rattle.winnow_script_print.specs.AnswerLines.{bytes_word, place_word, line, numbered_line}

-- the line of an answer with its piece, where `code` gives the number of a token
abbrev pub told_line : {T : Type 0} → (T → ℕ) → Told T → List ℕ
told_line code told = numbered_line code place_word place_word told.piece told.answer

-- the lines of all answers, in order
abbrev pub told_lines : {T : Type 0} → (T → ℕ) → List (Told T) → List ℕ
told_lines code told = flat_map (told_line code) told

-- the words for what a feed waits for, where `words` gives those of an input
abbrev pub waiting_words : {P : Type 0} → (P → List ℕ) → Waiting P → List ℕ
waiting_words words (Until more) = words more
waiting_words words ToEnd = codes " end"
waiting_words words NotWaiting = codes " none"
waiting_words words NotFed = codes " none"

-- the line that says what a feed waits for after a number of pieces
abbrev pub waiting_line : {P : Type 0} → (P → List ℕ) → ℕ → Waiting P → List ℕ
waiting_line words pieces waiting =
    decimal pieces ++ codes " waits" ++ line (waiting_words words waiting)

-- what the lines after some pieces print, if the first n answers are printed: for a line that asks
-- what is waited for, the further answers that are out by then and the line that says it; at the
-- end, all further answers
module _ {P : Type 0} (i : InputRules) (script : List PieceStep) (bytes : P → List ℕ) where
  abbrev pub Prints : List (List ℕ) → ℕ → List (FedLine P) → List ℕ → Type 0
  Prints pieces n [] printed = printed ≡ told_lines (λ t. t) (drop n (told_to_end i script pieces))
  Prints pieces n (Piece piece ∷ lines) printed =
      Prints (pieces ++ bytes piece ∷ []) n lines printed
  Prints pieces n (Waits ∷ lines) printed =
      (waiting : Waiting P) × (later : List ℕ) × WaitsFor i script bytes pieces waiting
      × Prints pieces (length (told_of i script pieces)) lines later
      × (printed ≡ told_lines (λ t. t) (drop n (told_of i script pieces))
      ++ waiting_line (λ more. bytes_word (bytes more)) (capped (length pieces)) waiting ++ later)
