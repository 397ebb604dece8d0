-- How formulas are written in tokens.
use Rattle.std.specs.Prelude.{◌≡◌, ℕ, List, [], ◌∷◌, ◌++◌, drop, Some}
use Rattle.example_lexer.specs.declared.token.Kind.TheVariants as kind
use Rattle.example_lexer.specs.declared.token.Token.{Token}
use Rattle.winnow_stream.specs.Source.{units}
use Rattle.winnow_spans.specs.TokenSpan.{span_of}
use Rattle.example_lexer.specs.Tokens.{AreTokens}
use Rattle.example_two_stages.specs.Signs.{sign_of}
use Rattle.example_two_stages.specs.Trees.{range_of, shape_of, Digits, Letters, InParens, Negated, Joined}
use Rattle.example_two_stages.specs.declared.tree.Operator.{Operator}
use Rattle.example_two_stages.specs.declared.tree.Operator.TheVariants.{Plus, Minus, Times, Over}
use Rattle.example_two_stages.specs.declared.tree.Tree.{Tree}

-- the parts of a formula
pub data Part : Type 0 where
  Sum : Part
  Term : Part
  Factor : Part

-- the part that an operator makes, which its left side is, too
abbrev pub part_of : Operator → Part
part_of Plus = Sum
part_of Minus = Sum
part_of Times = Term
part_of Over = Term

-- the part on the right side of an operator
abbrev pub right_of : Operator → Part
right_of Plus = Term
right_of Minus = Term
right_of Times = Factor
right_of Over = Factor

-- the byte of an operator
abbrev pub byte_of : Operator → ℕ
byte_of Plus = 43
byte_of Minus = 45
byte_of Times = 42
byte_of Over = 47

-- the range of the formula is that of the tokens: from where the first one starts to where the last
-- one ends
abbrev pub Covers : Tree → List Token → Type 0
Covers tree tokens = span_of (λ token. token.span.start) (λ token. token.span.end) tokens ≡ Some (range_of tree)

-- the tokens write this part of a formula: a sum is a term, or a sum, a plus or a minus, and a
-- term; a term is a factor, or a term, a star or a slash, and a factor; a factor is a number, a
-- name, a sum in parentheses, or a minus and a factor. The range of each is that of its tokens
pub data Writes (source : List ℕ) : Part → Tree → List Token → Type 0 where
  term : {t : Tree} {ts : List Token} → Writes source Term t ts → Writes source Sum t ts
  factor : {t : Tree} {ts : List Token} → Writes source Factor t ts → Writes source Term t ts
  operation : (t left right : Tree) (operator : Operator) (sign : Token) (ls rs : List Token)
      → Writes source (part_of operator) left ls → sign_of source sign ≡ Some (byte_of operator)
      → Writes source (right_of operator) right rs → shape_of t ≡ Joined left operator right
      → Covers t (ls ++ sign ∷ rs) → Writes source (part_of operator) t (ls ++ sign ∷ rs)
  number : (t : Tree) (token : Token) → token.kind ≡ kind.Number → shape_of t ≡ Digits
      → Covers t (token ∷ []) → Writes source Factor t (token ∷ [])
  name : (t : Tree) (token : Token) → token.kind ≡ kind.Name → shape_of t ≡ Letters
      → Covers t (token ∷ []) → Writes source Factor t (token ∷ [])
  parens : (t inside : Tree) (opening closing : Token) (ts : List Token)
      → sign_of source opening ≡ Some 40 → Writes source Sum inside ts
      → sign_of source closing ≡ Some 41 → shape_of t ≡ InParens inside
      → Covers t (opening ∷ (ts ++ closing ∷ [])) → Writes source Factor t (opening ∷ (ts ++ closing ∷ []))
  minus : (t inside : Tree) (sign : Token) (ts : List Token) → sign_of source sign ≡ Some 45
      → Writes source Factor inside ts → shape_of t ≡ Negated inside → Covers t (sign ∷ ts)
      → Writes source Factor t (sign ∷ ts)

-- the source has tokens from this place on to its end, and they write the formula
abbrev pub IsFormula : List ℕ → ℕ → Tree → Type 0
IsFormula source start tree = (tokens : List Token)
    × (AreTokens (units (drop start source)) start tokens × Writes source Sum tree tokens)
