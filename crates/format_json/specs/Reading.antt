-- Tokens that a reader reads of bytes that come in pieces.
use Rattle.std.specs.Prelude.{◌≡◌, ℕ, ◌+◌, Bool, false, List, [], ◌∷◌, ◌++◌, length}
use Rattle.winnow_reader.specs.State.{ReaderState}
use Rattle.winnow_reader.specs.Reading.{MayFollow}
use Rattle.format_json.specs.Language.{after_blanks}
use Rattle.format_json.specs.Tokens.{TokenAhead}
use Rattle.format_json.specs.TokenAnswers.{IsWrongAt}
use Rattle.format_json.specs.declared.tokens.Token.{Token}

-- the bytes begin with these tokens, one after the other, and the rest follows
abbrev pub AreTokens : Bool → List Token → List ℕ → List ℕ → Type 0
AreTokens partial [] bytes rest = bytes ≡ rest
AreTokens partial (token ∷ tokens) bytes rest =
    (after : List ℕ) × (TokenAhead partial token bytes after × AreTokens partial tokens after rest)

module _ {R : Type 0} where
  -- no matter what follows, the input and that are these tokens, and then what is ahead of the
  -- reader and what follows
  abbrev pub BeginsWith : ReaderState R → List ℕ → List Token → Type 0
  BeginsWith f input tokens = (more : List ℕ) → MayFollow f.ended more false
      → AreTokens false tokens (input ++ more) (f.ahead ++ more)

  -- on each continuation, the token ahead of the reader is malformed at this place of the joined
  -- input
  abbrev pub FindsDamage : ReaderState R → ℕ → Type 0
  FindsDamage f place = (rest : List ℕ) × ((f.place + length f.ahead ≡ place + length rest)
      × ((more : List ℕ) → MayFollow f.ended more false
      → IsWrongAt false (after_blanks (f.ahead ++ more)) (rest ++ more)))
