-- The tokens of a stream of bytes.
use Rattle.std.specs.Prelude.{◌≡◌, ℕ, ◌==◌, Bool, false, ◌||◌, if◌then◌else◌, List, [], ◌∷◌, Some}
use Rattle.std.specs.Char.{is_ascii_alphabetic, is_ascii_digit}
use Rattle.winnow_stream.specs.Source.{Source, first_token, HoldsAll}
use Rattle.winnow_combinator.specs.Words.{AreWords, StandsAt}
use Rattle.example_lexer.specs.declared.token.Kind.{Kind}
use Rattle.example_lexer.specs.declared.token.Kind.TheVariants.{Name, Number, Punctuation}
use Rattle.example_lexer.specs.declared.token.Token.{Token}

-- a space, a tab, a newline or a carriage return
abbrev pub is_blank : ℕ → Bool
is_blank byte = 32 == byte || (9 == byte || (10 == byte || 13 == byte))

-- the source does not begin with a blank
abbrev pub IsClear : Source ℕ → Type 0
IsClear r = (byte : ℕ) → first_token r ≡ Some byte → is_blank byte ≡ false

-- the kind of a token that begins with this byte
abbrev pub kind_of : ℕ → Kind
kind_of byte = if is_ascii_alphabetic byte then Name else if is_ascii_digit byte then Number else Punctuation

-- a token of this kind goes on with this byte
abbrev pub goes_on : Kind → ℕ → Bool
goes_on Name byte = is_ascii_alphabetic byte
goes_on Number byte = is_ascii_digit byte
goes_on Punctuation byte = false

-- the text of a token: a first byte, which is not a blank and decides the kind, and bytes with
-- which that kind goes on
abbrev pub IsText : Kind → Source ℕ → Type 0
IsText kind [] = ⊥
IsText kind (first ∷ more) = (is_blank first.0 ≡ false) × (kind ≡ kind_of first.0) × HoldsAll (goes_on kind) more

-- the text of a token that does not go on with what follows
abbrev pub IsWord : Kind → Source ℕ → Source ℕ → Type 0
IsWord kind text rest = IsText kind text × ((byte : ℕ) → first_token rest ≡ Some byte → goes_on kind byte ≡ false)

-- the tokens of a source from a place on: each stands where its span says, with only blanks between
-- them and at the end
abbrev pub AreTokens : Source ℕ → ℕ → List Token → Type 0
AreTokens ahead place tokens = AreWords (HoldsAll is_blank) (λ token. IsWord token.kind) (λ token. token.span) ahead place tokens

-- the text at the token's span is that of a token of its kind
abbrev pub StandsIn : List ℕ → Token → Type 0
StandsIn text token = StandsAt (IsText token.kind) text token.span
