-- Blanks before a token, which a reader of tokens drops where it needs more.
use Rattle.std.specs.Prelude.{◌≡◌, ℕ, ◌+◌, ◌≤◌, ◌<◌, List, [], ◌∷◌, ◌++◌, length, take, drop, ◌⊎◌}
use Rattle.winnow_reader.specs.State.{ReaderState, waiting_for}
use Rattle.winnow_reader.specs.Reading.{HasRead, AwaitsAsked}
use Rattle.winnow_reader.specs.Skips.{skipped}
use Rattle.format_lemmas.specs.Bytes.{Each}
use Rattle.format_json.specs.Language.{is_blank, after_blanks}
use Rattle.format_json.specs.TokenAnswers.{OneToken}
use Rattle.format_json.specs.declared.tokens.Token.{Token}
use Rattle.format_json.specs.declared.reading.JsonToken.{JsonToken}

-- ---- What was taken

-- a reader that kept these blanks, which begin at the start, and what is ahead after them
abbrev pub with_blanks : ReaderState JsonToken → ℕ → List ℕ → ReaderState JsonToken
with_blanks f start blanks = record f { place = start; ahead = blanks ++ f.ahead; wanted = 0 }

-- of this joined input the reader has taken these tokens, and dropped these blanks after them, up
-- to its place: a reader that kept the blanks has read just these tokens. And where the reader
-- waits, the record asked for what it waits for.
pub record HasTaken (f : ReaderState JsonToken) (input : List ℕ) (tokens : List Token) : Type 0 where
  pub start : ℕ
  pub blanks : List ℕ
  pub dropped : Each is_blank blanks
  pub there : f.place ≡ start + length blanks
  pub read : HasRead (λ p. OneToken) (with_blanks f start blanks) input tokens
  pub awaits : AwaitsAsked (λ p. OneToken) f

-- no matter what was taken, the other reader has taken the same
abbrev pub TakesThrough : ReaderState JsonToken → ReaderState JsonToken → Type 0
TakesThrough old new = (input : List ℕ) (tokens : List Token)
    → HasTaken old input tokens → HasTaken new input tokens

-- no matter what was taken, the other reader has taken that, and the token
abbrev pub TakesAlso : ReaderState JsonToken → Token → ReaderState JsonToken → Type 0
TakesAlso old token new = (input : List ℕ) (tokens : List Token)
    → HasTaken old input tokens → HasTaken new input (tokens ++ token ∷ [])

-- ---- Waiting

-- the first n bytes are there, and are blanks
abbrev pub AreBlanks : ℕ → List ℕ → Type 0
AreBlanks n bytes = (n ≤ length bytes) × Each is_blank (take n bytes)

-- the blanks ahead were dropped, all of them and nothing else; or there are none, and nothing
-- changed
abbrev pub DropsBlanks : ReaderState JsonToken → ReaderState JsonToken → Type 0
DropsBlanks old new = ((n : ℕ) × ((0 < n) × AreBlanks n old.ahead
    × (drop n old.ahead ≡ after_blanks old.ahead) × (new ≡ skipped old n)))
    ⊎ ((old.ahead ≡ after_blanks old.ahead) × (new ≡ old))

-- no token was taken: the reader waits for some number of bytes, and has dropped the blanks ahead
abbrev pub WaitsOn : ReaderState JsonToken → ReaderState JsonToken → Type 0
WaitsOn old new = (wanted : ℕ) × DropsBlanks (waiting_for old wanted) new
