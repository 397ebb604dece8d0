-- What the parsers mean, as they are written with the combinators.
use Rattle.std.specs.Prelude.{◌≡◌, ℕ, Bool, List, Option, Some, None, ⊤}
use Rattle.std.specs.Int.{w64}
use Rattle.winnow_stream.specs.Source.{Source}
use Rattle.winnow_stream.specs.Longer.{SlicesStay}
use Rattle.winnow_count.specs.Reading.{IsSomeExactly, ReadsSigned}
use Rattle.winnow_parser.specs.Outcome.{Meaning}
use Rattle.winnow_parser.specs.Laws.{IsParser}
use Rattle.winnow_parser.specs.Meanings.{VerifyMaps}
use Rattle.winnow_parser.specs.Parts.{IsParser-VerifyMaps}
use Rattle.winnow_token.specs.TakeWhile.{TakesWhile, IsParser-TakesWhile}
use Rattle.winnow_combinator.specs.Gathering.{Gathered, IsParser-Gathered}
use Rattle.format_json_scalars.specs.Numbers.{IsNumber, is_number_byte}
use Rattle.format_json_scalars.specs.declared.numbers.Number.{Number}

-- a value is kept exactly if a fact holds of it
abbrev pub Keeps : {S : Type 0} → (S → Type 0) → S → Option S → Type 0
Keeps fact value None = ¬ (fact value)
Keeps fact value (Some same) = (same ≡ value) × fact value

-- the number has this text, and an integer exactly where the text is that of one, with neither
-- fraction nor exponent, and 64 bits with a sign have it
abbrev pub IsNumberOf : List ℕ → Number → Type 0
IsNumberOf text number = (number.text.items ≡ text) × IsSomeExactly (ReadsSigned w64 text) number.integer

-- the number is the one that its own text writes
abbrev pub IsWritten : Number → Type 0
IsWritten number = IsNumber number.text.items × IsNumberOf number.text.items number

module _ {S T : Type 0} (code : T → ℕ) (is_slice : S → Source T → ℕ → Type 0) (bytes : S → List ℕ) where
  -- the longest run of bytes of a set, if there is one and a fact holds of it
  abbrev pub Run : (ℕ → Bool) → (List ℕ → Type 0) → Meaning S T
  Run holds fact = VerifyMaps (Keeps (λ slice. fact (bytes slice))) (TakesWhile is_slice (λ token. holds (code token)) 1 None)

  -- a number
  abbrev pub NumberRun : Meaning Number T
  NumberRun = Gathered ⊤ (λ slice. IsNumberOf (bytes slice)) (Run is_number_byte IsNumber)

  module _ (stay : SlicesStay is_slice) where
    -- `Run` keeps the laws of a parser
    pub IsParser-Run : (holds : ℕ → Bool) (fact : List ℕ → Type 0) → IsParser (Run holds fact)
    IsParser-Run holds fact = IsParser-VerifyMaps (Keeps (λ slice. fact (bytes slice))) _ (IsParser-TakesWhile is_slice stay (λ token. holds (code token)) 1 None)

    -- `NumberRun` keeps the laws of a parser
    pub IsParser-NumberRun : IsParser NumberRun
    IsParser-NumberRun = IsParser-Gathered ⊤ (λ slice. IsNumberOf (bytes slice)) (IsParser-Run is_number_byte IsNumber)
