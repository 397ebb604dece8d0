-- The answers of the reader of tokens, in the words of the format.
use Rattle.std.specs.Prelude.{◌≡◌, ℕ, ◌≤◌, Bool, true, List, ◌++◌, length, drop, ◌⊎◌, ⊤}
use Rattle.winnow_stream.specs.Shortage.{needed}
use Rattle.winnow_parser.specs.Outcome.{Backtracks, Cuts, Needs, Refuses, Gives, Fails, Meaning, Moves}
use Rattle.format_lemmas.specs.Bytes.{Each, StartsWith, bytes_of}
use Rattle.format_json_scalars.specs.Numbers.{is_number_byte}
use Rattle.format_json_scalars.specs.StringAnswers.{IsDamagedAt, IsBegun}
use Rattle.format_json.specs.Language.{after_blanks}
use Rattle.format_json.specs.Founds.{HasNone}
use Rattle.format_json.specs.Tokens.{Word, lexeme_of, TokenHere, TokenAhead}
use Rattle.format_json.specs.declared.found.Found.{Found}
use Rattle.format_json.specs.declared.found.Found.TheVariants.{Whole, Begun, Damaged}
use Rattle.format_json.specs.declared.tokens.Token.{Token}

-- where no quote stands, no token begins, no matter what follows; a number has ended
abbrev pub IsNoToken : Bool → List ℕ → Type 0
IsNoToken partial here = ¬ (StartsWith 34 here) × (partial ≡ true → ¬ (Each is_number_byte here))
    × HasNone (TokenHere partial) partial here

-- the token is damaged at the rest: a string where it is wrong, and anything else where it begins
abbrev pub IsWrongAt : Bool → List ℕ → List ℕ → Type 0
IsWrongAt partial here rest = IsDamagedAt partial here rest
    ⊎ ((rest ≡ here) × IsNoToken partial here)

-- more bytes make the bytes a word that is a token
abbrev pub BeginsWord : List ℕ → Type 0
BeginsWord here = (token : Token) × ((more : List ℕ) × (lexeme_of token ≡ Word (here ++ more)))

-- more bytes are needed: all of them may be those of a number; or they are no token, and more bytes
-- make them a string or a word
abbrev pub MayBecome : List ℕ → Type 0
MayBecome here = Each is_number_byte here
    ⊎ (((token : Token) (rest : List ℕ) → ¬ (TokenHere true token here rest))
    × (IsBegun here ⊎ BeginsWord here))

-- what is found in the bytes, which are `here` after blanks: a token, which ends after n of them;
-- or more are needed, and may follow; or damage after n of them
abbrev pub IsTokenFound : Bool → List ℕ → List ℕ → Found Token → Type 0
IsTokenFound partial bytes here (Whole token n) = (n ≤ length bytes) × TokenHere partial token here (drop n bytes)
IsTokenFound partial bytes here Begun = (partial ≡ true) × MayBecome here
IsTokenFound partial bytes here (Damaged n) = (n ≤ length bytes) × IsWrongAt partial here (drop n bytes)

-- what the reader of tokens may answer: the token ahead; a cut at the damage; or that one more byte
-- is needed; or memory was refused
abbrev pub OneToken : Meaning Token ℕ
OneToken partial a (Gives token b) =
    Moves a b × TokenAhead partial token (bytes_of a.tokens) (bytes_of b.tokens)
OneToken partial a (Fails (Backtracks b)) = ⊥
OneToken partial a (Fails (Cuts b)) =
    Moves a b × IsWrongAt partial (after_blanks (bytes_of a.tokens)) (bytes_of b.tokens)
OneToken partial a (Fails (Needs n)) =
    (partial ≡ true) × (n ≡ needed 1) × MayBecome (after_blanks (bytes_of a.tokens))
OneToken partial a (Fails Refuses) = ⊤
