-- What the functions of the grammar make, and the spellings of its parts over references to tokens.
use Rattle.std.specs.Prelude.{◌≡◌, ℕ, pos, Bool, List, [], ◌∷◌, ◌++◌, map, IfOk, Option, Some, None, Result, Ok, Err, IsTrue}
use Rattle.std.specs.declared.alloc.AllocError.{AllocError}
use Rattle.std.specs.declared.ops.Range.{Range}
use Rattle.winnow_stream.specs.Source.{Source}
use Rattle.winnow_stream.specs.Front.{is_offset, front}
use Rattle.winnow_parser.specs.Outcome.{Ahead, Backtracks, Fails, Meaning}
use Rattle.winnow_spans.specs.TokenSpan.{span_of}
use Rattle.winnow_grammar.specs.Spelling.{Spelling, tokens_of}
use Rattle.winnow_expression.specs.declared.operators.Infix.{Infix}
use Rattle.winnow_expression.specs.declared.operators.Prefix.{Prefix}
use Rattle.example_lexer.specs.declared.token.Kind.{Kind}
use Rattle.example_lexer.specs.declared.token.Kind.TheVariants as kind
use Rattle.example_lexer.specs.declared.token.Token.{Token}
use Rattle.example_two_stages.specs.Formulas.{Part, Writes}
use Rattle.example_two_stages.specs.Signs.{sign_of, infix_of}
use Rattle.example_two_stages.specs.Trees.{range_of, Digits, Letters, InParens, Negated, Joined, IsTree}
use Rattle.example_two_stages.specs.declared.formula.Operand.{Operand}
use Rattle.example_two_stages.specs.declared.formula.Operand.TheVariants as operand
use Rattle.example_two_stages.specs.declared.tree.Operator.{Operator}
use Rattle.example_two_stages.specs.declared.tree.Tree.{Tree}

-- the operand that a token of this kind is alone
abbrev pub leaf_of : Kind → Option Operand
leaf_of kind.Number = Some operand.Number
leaf_of kind.Name = Some operand.Name
leaf_of kind.Punctuation = None

-- the formula is that operand in this range
abbrev pub IsPlaced : Operand → Range ℕ → Tree → Type 0
IsPlaced operand.Number range tree = IsTree range Digits tree
IsPlaced operand.Name range tree = IsTree range Letters tree
IsPlaced (operand.Group inside) range tree = IsTree range (InParens inside) tree

-- the formula is a minus in the first range and what it negates
abbrev pub IsNegative : Range ℕ → Result Tree AllocError → Tree → Type 0
IsNegative range (Ok inside) tree =
    IsTree (record { start = range.start; end = (range_of inside).end }) (Negated inside) tree
IsNegative range (Err e) tree = ⊥

-- the formula is two formulas with the operator between them
abbrev pub IsBinary : Result Tree AllocError → Operator → Result Tree AllocError → Tree → Type 0
IsBinary (Ok left) operator (Ok right) tree =
    IsTree (record { start = (range_of left).start; end = (range_of right).end }) (Joined left operator right) tree
IsBinary (Ok left) operator (Err e) tree = ⊥
IsBinary (Err e) operator right tree = ⊥

-- ---- Over a stream whose tokens stand for those of the lexer

module _ {T : Type 0} (token : T → Token) where
  -- the tokens write this part of a formula
  abbrev pub WritesPart : List ℕ → Part → Spelling Tree T
  WritesPart source part tree tokens = Writes source part tree (map token tokens)

  -- the tokens write this part of a formula, if memory for it was granted
  abbrev pub WritesMade : List ℕ → Part → Spelling (Result Tree AllocError) T
  WritesMade source part made tokens = IfOk made (λ tree. WritesPart source part tree tokens)

  -- the token is this operand alone
  abbrev pub WritesLeaf : Spelling Operand T
  WritesLeaf x tokens = (t : T) × ((tokens ≡ t ∷ []) × (leaf_of (token t).kind ≡ Some x))

  -- the tokens are parentheses, 40 and 41, around those that spell a formula
  abbrev pub WritesInParens : List ℕ → Spelling Tree T → Spelling Tree T
  WritesInParens source spells inside tokens = (opening : T) × ((closing : T)
      × ((between : List T) × ((tokens ≡ opening ∷ (between ++ closing ∷ []))
      × (sign_of source (token opening) ≡ Some 40) × spells inside between
      × (sign_of source (token closing) ≡ Some 41))))

  -- the tokens write an operand, if this is how formulas inside parentheses are spelled
  abbrev pub WritesOperand : List ℕ → Spelling Tree T → Spelling Operand T
  WritesOperand source spells operand.Number tokens = WritesLeaf operand.Number tokens
  WritesOperand source spells operand.Name tokens = WritesLeaf operand.Name tokens
  WritesOperand source spells (operand.Group inside) tokens =
      WritesInParens source spells inside tokens

  -- the span of a slice is the range of the tokens that it covers
  abbrev pub SlicesHaveSpans : {S : Type 0} → (S → Source T → ℕ → Type 0)
      → (S → Option (Range ℕ)) → Type 0
  SlicesHaveSpans {S} is_slice span = (s : S) (r : Source T) (n : ℕ) → IsTrue (is_offset r n)
      → is_slice s r n
      → span s ≡ span_of (λ t. t.span.start) (λ t. t.span.end) (map token (tokens_of (front r n)))

  -- the token is a minus, 45, of binding power 3, in this range
  abbrev pub IsMinus : List ℕ → Spelling (Prefix (Range ℕ)) T
  IsMinus source sign tokens = (t : T) × ((tokens ≡ t ∷ [])
      × (sign_of source (token t) ≡ Some 45) × (sign.0 ≡ pos 3)
      × (span_of (λ t. t.span.start) (λ t. t.span.end) (token t ∷ []) ≡ Some sign.1))

  -- the token is this operator between two formulas
  abbrev pub IsInfix : List ℕ → Spelling (Infix Operator) T
  IsInfix source sign tokens =
      (t : T) × ((tokens ≡ t ∷ []) × (infix_of source (token t) ≡ Some sign))

  -- the operator between two formulas that the first token is
  abbrev pub operator_at : List ℕ → Source T → Option (Infix Operator)
  operator_at source [] = None
  operator_at source (t ∷ rest) = infix_of source (token t.0)

  -- the parser of operators backtracks only if the first token is none
  abbrev pub MissesNone : List ℕ → Meaning (Infix Operator) T → Type 0
  MissesNone source means = (partial : Bool) (a c : Ahead T) → means partial a (Fails (Backtracks c))
      → operator_at source a.tokens ≡ None
