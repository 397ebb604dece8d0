-- What it is for a parser to read a language: the tokens that spell some value.
use Rattle.std.specs.Prelude.{◌≡◌, ℕ, Bool, true, false, List, [], ◌∷◌, ◌++◌, ⊤}
use Rattle.winnow_stream.specs.Source.{Source, HasPositiveWidths}
use Rattle.winnow_grammar.specs.Spelling.{Spelling, tokens_of}
use Rattle.winnow_parser.specs.Outcome.{Ahead, Backtracks, Gives, Fails, Meaning}

-- there are no tokens, or the first passes the test
abbrev pub StartsIn : {T : Type 0} → (T → Bool) → List T → Type 0
StartsIn holds [] = ⊤
StartsIn holds (t ∷ ts) = holds t ≡ true

-- no front of the tokens is in the language
abbrev pub Lacks : {O T : Type 0} → Spelling O T → List T → Type 0
Lacks {O} {T} L whole = (x : O) (front rest : List T) → whole ≡ front ++ rest → L x front → ⊥

-- each front of the tokens that is in the language ends where the suffix begins, or before; what
-- lies between starts with a token that passes the test
abbrev pub Ends : {O T : Type 0} → Spelling O T → (T → Bool) → List T → List T → Type 0
Ends {O} {T} L goes whole suffix = (x : O) (front rest : List T) → whole ≡ front ++ rest → L x front
    → (more : List T) × ((rest ≡ more ++ suffix) × StartsIn goes more)

-- a front of the tokens is in the language, and this is left
abbrev pub Leaves : {O T : Type 0} → Spelling O T → O → Source T → Source T → Type 0
Leaves {T = T} L x whole rest = HasPositiveWidths rest
    × ((front : List T) × ((tokens_of whole ≡ front ++ tokens_of rest) × L x front))

-- where nothing follows the input, the parser takes the longest front that is in the language, and
-- backtracks only where there is none; a longer front goes on with a token that passes the test
pub record IsExact {O T : Type 0} (L : Spelling O T) (goes : T → Bool) (means : Meaning O T) : Type 0 where
  pub gives : (a b : Ahead T) (x : O) → HasPositiveWidths a.tokens → means false a (Gives x b)
      → Leaves L x a.tokens b.tokens
  pub ends : (a b : Ahead T) (x : O) → HasPositiveWidths a.tokens → means false a (Gives x b)
      → Ends L goes (tokens_of a.tokens) (tokens_of b.tokens)
  pub none : (a b : Ahead T) → HasPositiveWidths a.tokens → means false a (Fails (Backtracks b))
      → Lacks L (tokens_of a.tokens)
