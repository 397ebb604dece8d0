-- The two kinds of input that arrive in pieces: bytes, and text.
use Rattle.std.specs.Prelude.{ℕ, nat_le, Bool, true, false, List, [], ◌∷◌, ◌++◌, map}
use Rattle.std.specs.Borrow.{Bor}
use Rattle.std.specs.Char.{encode_utf8}
use Rattle.std.specs.Str.{is_utf8, all_scalars}
use Rattle.winnow_stream.specs.Source.{Source, units}
use Rattle.winnow_stream.specs.Text.{text_source}
use Rattle.winnow_sets.specs.declared.char_set.CharSet.{CharSet}
use Rattle.winnow_script_run.specs.declared.search_steps.SearchStep.{SearchStep}
use Rattle.winnow_script_run.specs.Definite.{PieceReading}
use Rattle.winnow_script_attempt.specs.Missing.{greatest_byte, greatest_char}
use Rattle.winnow_script_attempt.specs.Looks.{piece_reading}

-- a step over bytes or text: a literal is its bytes, and a token is a byte or the number of a
-- character
abbrev pub PieceStep : Type 0
PieceStep = SearchStep CharSet (Bor (List ℕ))

abbrev pub byte_reading : PieceReading ℕ CharSet (Bor (List ℕ))
byte_reading = piece_reading (λ byte. byte) true (λ byte. byte ∷ []) (λ literal. literal.now)

abbrev pub text_reading : PieceReading ℕ CharSet (Bor (List ℕ))
text_reading = piece_reading (λ c. c) false encode_utf8 (λ literal. literal.now)

-- a kind of input: which bytes are valid and what tokens they are, which numbers are tokens, and
-- the greatest of these
pub record InputRules : Type 0 where
  pub valid : List ℕ → Bool
  pub source : List ℕ → Source ℕ
  pub pieces : PieceReading ℕ CharSet (Bor (List ℕ))
  pub is_token : ℕ → Bool
  pub greatest : ℕ

abbrev pub byte_input : InputRules
byte_input = record { valid = λ _. true; source = units; pieces = byte_reading; is_token = λ n. nat_le n greatest_byte; greatest = greatest_byte }

abbrev pub text_input : InputRules
text_input = record { valid = is_utf8; source = text_source; pieces = text_reading; is_token = λ n. all_scalars (n ∷ []); greatest = greatest_char }

-- the pieces, appended one after the other
abbrev pub joined : List (List ℕ) → List ℕ
joined [] = []
joined (p ∷ pieces) = p ++ joined pieces

-- the pieces that references point to
abbrev pub pieces_in : List (Bor (List ℕ)) → List (List ℕ)
pieces_in pieces = map (λ p. p.now) pieces
