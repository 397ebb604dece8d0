-- Tokens, as RFC 8259 has them: brackets, commas, colons, three words, numbers and strings. 91 and
-- 93 are the brackets of an array, 123 and 125 those of an object, 44 is a comma and 58 a colon.
use Rattle.std.specs.Prelude.{◌≡◌, ℕ, ℤ, ◌==◌, Bool, true, false, ◌||◌, if◌then◌else◌, List, [], ◌∷◌, ◌++◌, Option, encode_utf8_all}
use Rattle.std.specs.Int.{w64}
use Rattle.std.specs.String.{string_bytes}
use Rattle.winnow_count.specs.Reading.{IsSomeExactly, ReadsSigned}
use Rattle.format_json_scalars.specs.Strings.{StringAhead}
use Rattle.format_json_scalars.specs.NumberAnswers.{NumberAhead}
use Rattle.format_json.specs.Language.{after_blanks, null_word, bool_word}
use Rattle.format_json.specs.declared.tokens.Token.{Token}
use Rattle.format_json.specs.declared.tokens.Token.TheVariants as token

-- what a token says, wherever its bytes lie in memory: a word that is always the same; a number,
-- with its text and its integer; a string, with its characters in UTF-8; or the end of the text
pub data Lexeme : Type 0 where
  Word : List ℕ → Lexeme
  Digits : List ℕ → Option ℤ → Lexeme
  Quoted : List ℕ → Lexeme
  Ending : Lexeme

-- what the token says
abbrev pub lexeme_of : Token → Lexeme
lexeme_of token.StartArray = Word (91 ∷ [])
lexeme_of token.EndArray = Word (93 ∷ [])
lexeme_of token.StartObject = Word (123 ∷ [])
lexeme_of token.EndObject = Word (125 ∷ [])
lexeme_of token.Comma = Word (44 ∷ [])
lexeme_of token.Colon = Word (58 ∷ [])
lexeme_of token.Null = Word null_word
lexeme_of (token.Bool b) = Word (bool_word b)
lexeme_of (token.Number n) = Digits n.text.items n.integer
lexeme_of (token.String s) = Quoted (string_bytes s)
lexeme_of token.End = Ending

-- the bytes begin with what is said, and the rest follows
abbrev pub LexemeHere : Bool → Lexeme → List ℕ → List ℕ → Type 0
LexemeHere partial (Word word) bytes rest = bytes ≡ word ++ rest
LexemeHere partial (Digits text integer) bytes rest =
    NumberAhead partial bytes text rest × IsSomeExactly (ReadsSigned w64 text) integer
LexemeHere partial (Quoted value) bytes rest =
    (cs : List ℕ) × (StringAhead bytes cs rest × (value ≡ encode_utf8_all cs))
LexemeHere partial Ending bytes rest = (partial ≡ false) × (bytes ≡ []) × (rest ≡ [])

-- the bytes begin with the token, and the rest follows; the end of the text stands where nothing
-- does and nothing may follow
abbrev pub TokenHere : Bool → Token → List ℕ → List ℕ → Type 0
TokenHere partial token bytes rest = LexemeHere partial (lexeme_of token) bytes rest

-- the same after blanks
abbrev pub TokenAhead : Bool → Token → List ℕ → List ℕ → Type 0
TokenAhead partial token bytes rest = TokenHere partial token (after_blanks bytes) rest

-- the word that begins with this byte, if a token does that is always the same word
abbrev pub word_from : ℕ → List ℕ
word_from first =
    if 91 == first || (93 == first || (123 == first || (125 == first || (44 == first || 58 == first))))
    then first ∷ []
    else (if 110 == first then null_word else (if 116 == first then bool_word true
    else (if 102 == first then bool_word false else [])))
