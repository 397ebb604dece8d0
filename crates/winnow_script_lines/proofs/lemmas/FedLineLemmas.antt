-- Lines that mean pieces, or questions what is waited for.
use Rattle.std.proofs.Common.{◌≡◌, ◌≢◌, ◌+◌, ℕ, Bool, true, List, [], ◌∷◌, ◌++◌, length, refl}
use Rattle.winnow_script_lines.specs.FaultyLines.{FaultsFed}
use Rattle.winnow_script_lines.specs.Inputs.{DenotesFed, BeginsWithPiece}
use Rattle.winnow_script_lines.specs.Lines.{AreLines}
use Rattle.winnow_script_lines.specs.Newline.{first_line}
use Rattle.winnow_script_lines.specs.Readings.{DenotesNothing}
use Rattle.winnow_script_lines.specs.declared.fed_lines.FedLine.{FedLine}
use Rattle.winnow_script_lines.specs.declared.fed_lines.FedLine.TheVariants.{Piece, Waits}

-- lines still begin with a piece after one more line, which is no question if it is the first
pub BeginsWithPiece-push : {L : Type 0} (lines : List (FedLine L)) (line : FedLine L)
    → BeginsWithPiece lines → (lines ≡ [] → line ≢ Waits) → BeginsWithPiece (lines ++ line ∷ [])
BeginsWithPiece-push [] Waits begins first = first refl refl
BeginsWithPiece-push [] (Piece p) begins first = tt
BeginsWithPiece-push (Waits ∷ lines) line begins first = absurd begins
BeginsWithPiece-push (Piece p ∷ lines) line begins first = tt

-- the first line is no question
pub BeginsWithPiece-first : {L : Type 0} (lines : List (FedLine L)) (line : FedLine L)
    → BeginsWithPiece (lines ++ line ∷ []) → lines ≡ [] → line ≢ Waits
BeginsWithPiece-first [] Waits begins none is = begins
BeginsWithPiece-first [] (Piece p) begins none is = cc is
BeginsWithPiece-first (x ∷ lines) line begins none is = cc none

module _ {L : Type 0} (bytes : L → List ℕ) where
  -- a line that means nothing that may follow the lines before it is the fault of the text
  pub FaultsFed-line : (first : ℕ) (text : List ℕ) (told : List (FedLine L)) (rest : List ℕ)
      (is_first : Bool) (k : ℕ) → AreLines (DenotesFed bytes) text told rest → BeginsWithPiece told
      → rest ≢ []
      → (is_first ≡ true → told ≡ [])
      → DenotesNothing (λ line item. DenotesFed bytes line item × (is_first ≡ true → item ≢ Waits)) (first_line rest) → k ≡ first + length told
      → FaultsFed bytes first text k
  FaultsFed-line first text told rest is_first k lines begins left empty_of none number =
      (told, rest, lines, begins, left, (λ item next. none item (next.0, λ is. BeginsWithPiece-first told item next.1 (empty_of is))), number)
