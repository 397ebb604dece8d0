-- The lines that a script of lines prints.
use Rattle.std.specs.Prelude.{◌≡◌, ℕ, List, [], ◌∷◌, codes, String, string_bytes}
use Rattle.std.specs.Borrow.{Bor}
use Rattle.std.specs.Global.{Vec, Global}
use Rattle.std.specs.List.{AllZip}
use Rattle.std.specs.declared.ops.Range.{Range}
use Rattle.winnow_match.specs.Bytes.{written}
use Rattle.winnow_sets.specs.declared.char_set.CharSet.{CharSet}
use Rattle.winnow_script_run.specs.Definite.{PieceReading, kind_on_pieces}
use Rattle.winnow_stream.specs.Front.{part}
use Rattle.winnow_script_feed.specs.Inputs.{PieceStep, InputRules, byte_input, text_input}
use Rattle.winnow_script_run.specs.Searching.{search_answers}
use Rattle.winnow_stream.specs.Source.{Source, offsets}
use Rattle.winnow_script_lines.specs.Inputs.{kind_word, DenotesNamed, DenotesFed}
use Rattle.winnow_script_lines.specs.Loans.{IsSameStep}
use Rattle.winnow_script_lines.specs.Lines.{AreLines}
use Rattle.winnow_script_lines.specs.Newline.{first_line, rest_lines}
use Rattle.winnow_script_lines.specs.Steps.{DenotesStep}
use Rattle.winnow_script_lines.specs.declared.fed_lines.FedLine.{FedLine}
use Rattle.winnow_script_lines.specs.declared.inputs.Kind.{Kind}
use Rattle.winnow_script_lines.specs.declared.inputs.Kind.TheVariants.{Bytes, Text, BytePieces, TextPieces}
use Rattle.winnow_script_lines.specs.declared.steps.ScriptStep.{ScriptStep}
use Rattle.winnow_script_print.specs.AnswerLines.{bytes_word, item_words, answer_lines}
use Rattle.winnow_script_lines.specs.ReportLines.{Prints}

-- the word of the slice at a place of a list, and the words of the items there
module _ (kind : PieceReading ℕ CharSet (Bor (List ℕ))) (all : Source ℕ) where
  abbrev pub slice_word : Range ℕ → List ℕ
  slice_word place = bytes_word (written kind.write (part all place))

  abbrev pub listed_words : Range ℕ → List ℕ
  listed_words place = item_words (λ t. t) (offsets (part all place))

  -- the lines of the answers that a script gives on the list
  abbrev pub whole_lines : List PieceStep → List ℕ
  whole_lines script =
      answer_lines (λ t. t) slice_word listed_words (search_answers (kind_on_pieces kind) all script)

-- literals are read as values of L, and lent for a run
module _ {L : Type 0} (bytes : L → List ℕ) (i : InputRules) where
  -- owned steps, lent as a script, print this on an input: the lines of the script's answers
  abbrev pub RunsWhole : List (ScriptStep L) → L → List ℕ → Type 0
  RunsWhole steps input printed =
      (script : List PieceStep) × AllZip (IsSameStep bytes (λ lent. lent.now)) steps script
      × (printed ≡ whole_lines i.pieces (i.source (bytes input)) script)

  -- owned steps, lent as a script, print this on lines of pieces
  abbrev pub RunsPieces : List (ScriptStep L) → List (FedLine L) → List ℕ → Type 0
  RunsPieces steps lines printed =
      (script : List PieceStep) × AllZip (IsSameStep bytes (λ lent. lent.now)) steps script
      × Prints i script bytes [] 0 lines printed

  -- the text means steps and one input, and `printed` is what they print on it
  abbrev pub PrintsWhole : List ℕ → List ℕ → Type 0
  PrintsWhole text printed =
      (steps : List (ScriptStep L)) × (rest : List ℕ) × (input : L)
      × AreLines (DenotesStep bytes) text steps rest
      × AreLines (DenotesNamed bytes (codes "input")) rest (input ∷ []) []
      × RunsWhole steps input printed

  -- the text means steps and lines of pieces, and `printed` is what they print on these
  abbrev pub PrintsPieces : List ℕ → List ℕ → Type 0
  PrintsPieces text printed =
      (steps : List (ScriptStep L)) × (rest : List ℕ) × (lines : List (FedLine L))
      × AreLines (DenotesStep bytes) text steps rest × AreLines (DenotesFed bytes) rest lines []
      × RunsPieces steps lines printed

-- the bytes of literals and inputs that a script owns
abbrev pub owned_bytes : Vec ℕ → List ℕ
owned_bytes bytes = bytes.items

abbrev pub owned_text : String Global → List ℕ
owned_text text = string_bytes text

-- what a text prints that follows the line of its kind
abbrev pub PrintsAs : Kind → List ℕ → List ℕ → Type 0
PrintsAs Bytes text printed = PrintsWhole owned_bytes byte_input text printed
PrintsAs Text text printed = PrintsWhole owned_text text_input text printed
PrintsAs BytePieces text printed = PrintsPieces owned_bytes byte_input text printed
PrintsAs TextPieces text printed = PrintsPieces owned_text text_input text printed

-- what a whole text prints, whose first line means its kind
abbrev pub PrintsScript : List ℕ → List ℕ → Type 0
PrintsScript text printed =
    (kind : Kind) × (first_line text ≡ kind_word kind) × PrintsAs kind (rest_lines text) printed
