-- What the parsers of operands and of minuses take, and their ranges.
use Rattle.std.proofs.Common.{◌≡◌, ℕ, true, List, [], ◌∷◌, ◌++◌, Option, Some, None, refl, ap, sym, ◌∙◌, subst, arith, take-append-drop}
use Rattle.std.specs.Prelude.{pos, map, drop, Result, Ok, Err, IfOk}
use Rattle.std.specs.declared.alloc.AllocError.{AllocError}
use Rattle.std.specs.declared.ops.Range.{Range}
use Rattle.std.proofs.lemmas.Bool.Decides.{nat_tests}
use Rattle.std.proofs.lemmas.List.{map-append, append_cancel_right}
use Rattle.std.proofs.lemmas.Option.{none-some, same_Some}
use Rattle.winnow_stream.specs.Source.{Source, first_token}
use Rattle.winnow_stream.specs.Front.{count_to, front, back}
use Rattle.winnow_parser.specs.Outcome.{Ahead, Meaning}
use Rattle.winnow_parser.specs.Meanings.{Maps}
use Rattle.winnow_parser.specs.Taken.{IsFrontTaken, WithTaken}
use Rattle.winnow_parser.specs.Context.{InContext}
use Rattle.winnow_token.specs.OneOf.{IsOneOf}
use Rattle.winnow_spans.specs.TokenSpan.{HasTokenSpan, IsSpan, span_of}
use Rattle.winnow_grammar.specs.Spelling.{Spelling, tokens_of, TakesFor, IsSpelled, IsWithin}
use Rattle.winnow_grammar.specs.Spelt.{Spelt}
use Rattle.winnow_expression.specs.declared.operators.Prefix.{Prefix}
use Rattle.example_lexer.specs.declared.token.Kind.{Kind}
use Rattle.example_lexer.specs.declared.token.Kind.TheVariants as kind
use Rattle.example_lexer.specs.declared.token.Token.{Token}
use Rattle.example_two_stages.specs.Formulas.{Factor, Sum, number, name, parens}
use Rattle.example_two_stages.specs.Grammar.{leaf_of, IsPlaced, SlicesHaveSpans, WritesPart, WritesMade, WritesOperand, IsMinus}
use Rattle.example_two_stages.specs.Signs.{sign_of, is_byte, is_sign}
use Rattle.example_two_stages.specs.declared.formula.Operand.{Operand}
use Rattle.example_two_stages.specs.declared.formula.Operand.TheVariants as operand
use Rattle.example_two_stages.specs.declared.tree.Tree.{Tree}
use Rattle.example_two_stages.proofs.lemmas.CoverLemmas.{span-is}

-- a sign that a set holds is that byte
pub sign-held : (source : List ℕ) (byte : ℕ) (token : Token) → is_sign source byte token ≡ true
    → sign_of source token ≡ Some byte
sign-held source byte token h = by (sign_of source token) h
  where
    by : (sign : Option ℕ) → is_byte byte sign ≡ true → sign ≡ Some byte
    by None e = absurd (cc e)
    by (Some sign) e = let same : sign ≡ byte = grind (arith, nat_tests, e) in ap Some same

-- a token that is a number or a name alone is of that kind
number-kind : (k : Kind) → leaf_of k ≡ Some operand.Number → k ≡ kind.Number
number-kind kind.Number e = refl
number-kind kind.Name e = absurd (cc e)
number-kind kind.Punctuation e = absurd (cc e)

name-kind : (k : Kind) → leaf_of k ≡ Some operand.Name → k ≡ kind.Name
name-kind kind.Number e = absurd (cc e)
name-kind kind.Name e = refl
name-kind kind.Punctuation e = absurd (cc e)

-- the range of tokens
abbrev range_in : List Token → Option (Range ℕ)
range_in tokens = span_of (λ token. token.span.start) (λ token. token.span.end) tokens

-- the range of tokens that are not none
range-is : (tokens : List Token) (x : Token) (xs : List Token) (range : Range ℕ) → tokens ≡ x ∷ xs
    → IsSpan (range_in tokens) range → range_in tokens ≡ Some range
range-is tokens x xs range e is =
    ap range_in e ∙ span-is (λ token. token.span.start) (λ token. token.span.end) x xs range (subst (λ ts. IsSpan (range_in ts) range) e is)

module _ {S T : Type 0} (the : T → Token) (is_slice : S → Source T → ℕ → Type 0) (span : S → Option (Range ℕ)) (spans : SlicesHaveSpans the is_slice span) where
  -- the tokens of the lexer
  abbrev here : List T → List Token
  here tokens = map the tokens

  -- the range of what is taken for a value is that of its tokens
  ranged : (s : S) (a b : Ahead T) (range : Range ℕ) (taken : Source T)
      → a.tokens ≡ taken ++ b.tokens → IsFrontTaken is_slice s a b → IsSpan (span s) range
      → IsSpan (range_in (here (tokens_of taken))) range
  ranged s a b range taken split (n, (at, slice, place)) is =
      let left : back a.tokens n ≡ b.tokens = ap (λ p. p.tokens) place in
      let whole : a.tokens ≡ front a.tokens n ++ b.tokens = sym (take-append-drop (count_to a.tokens n) a.tokens) ∙ ap (λ r. front a.tokens n ++ r) left in
      let fronts : taken ≡ front a.tokens n = append_cancel_right taken (front a.tokens n) b.tokens (sym split ∙ whole) in
      subst (λ r. IsSpan (range_in (here (tokens_of r))) range) (sym fronts) (subst (λ o. IsSpan o range) (spans s a.tokens n at slice) is)

  module _ (source : List ℕ) where
    -- ---- Operands

    -- an operand in the range of its tokens is a factor
    placed-writes : (spells : Spelling Tree T) → IsWithin spells (WritesPart the source Sum)
        → (o : Operand) (range : Range ℕ) (made : Result Tree AllocError) (ts : List T)
        → WritesOperand the source spells o ts → IsSpan (range_in (here ts)) range → IfOk made (IsPlaced o range)
        → WritesMade the source Factor made ts
    placed-writes spells within o range (Err e) ts h is placed = tt
    placed-writes spells within operand.Number range (Ok tree) ts (token, (e, k)) is placed =
        subst (λ us. WritesPart the source Factor tree us) (sym e) (number tree (the token) (number-kind (the token).kind k) placed.1 (sym (ap range_in (ap here e)) ∙ range-is (here ts) (the token) [] range (ap here e) is ∙ ap Some (sym placed.0)))
    placed-writes spells within operand.Name range (Ok tree) ts (token, (e, k)) is placed =
        subst (λ us. WritesPart the source Factor tree us) (sym e) (name tree (the token) (name-kind (the token).kind k) placed.1 (sym (ap range_in (ap here e)) ∙ range-is (here ts) (the token) [] range (ap here e) is ∙ ap Some (sym placed.0)))
    placed-writes spells within (operand.Group inside) range (Ok tree) ts (opening, (closing, (between, (e, s, h, k)))) is placed =
        let row : here ts ≡ (the opening) ∷ (here between ++ (the closing) ∷ []) = ap here e ∙ ap (λ us. (the opening) ∷ us) (map-append the between (closing ∷ [])) in
        let covers = sym (ap range_in row) ∙ range-is (here ts) (the opening) (here between ++ (the closing) ∷ []) range row is ∙ ap Some (sym placed.0) in
        rw row (parens tree inside (the opening) (the closing) (here between) s (within inside between h) k placed.1 covers)

    -- the parser of operands
    abbrev pub Operands : Spelling Tree T → Meaning (Result Tree AllocError) T
    Operands spells = Maps (λ both made. IfOk made (IsPlaced both.0 both.1)) (Maps (HasTokenSpan span) (WithTaken is_slice (Spelt (WritesOperand the source spells))))

    -- it takes factors
    pub operands-spelled : (spells : Spelling Tree T) → IsWithin spells (WritesPart the source Sum)
        → IsSpelled (WritesMade the source Factor) (Operands spells)
    operands-spelled spells within partial a b made wide (both, (placed, (value, ((same, is), ((moves, (taken, (split, h))), slice))))) = (
      taken,
      (
        split,
        placed-writes spells within both.0 both.1 made (tokens_of taken) (subst (λ o. WritesOperand the source spells o (tokens_of taken)) same h) (ranged value.1 a b both.1 taken split slice is) placed,
      ),
    )

    -- ---- Minuses

    -- the parser of minuses
    abbrev pub Minuses : Type 0 → Meaning (Prefix (Range ℕ)) T
    Minuses refusable = Maps (λ both p. (p.0 ≡ pos 3) × (p.1 ≡ both.1)) (Maps (HasTokenSpan span) (WithTaken is_slice (InContext refusable (IsOneOf (λ token. is_sign source 45 (the token))))))

    -- it takes a minus
    pub minuses-spelled : (refusable : Type 0) → IsSpelled (IsMinus the source) (Minuses refusable)
    minuses-spelled refusable partial a b p wide (both, ((third, ranges), (value, ((same, is), ((first, held, place), slice))))) =
        by a.tokens refl first (ap (λ q. q.tokens) place)
      where
        by : (r : Source T) → a.tokens ≡ r → first_token r ≡ Some value.0
            → b.tokens ≡ drop 1 a.tokens → TakesFor (IsMinus the source) p a b
        by [] e f d = absurd (none-some _ f)
        by (token ∷ rest) e f d =
            let whole : a.tokens ≡ token ∷ b.tokens = e ∙ ap (λ t. token ∷ t) (sym (d ∙ ap (drop 1) e)) in
            let it : token.0 ≡ value.0 = same_Some _ _ f in
            let sign = sign-held source 45 (the token.0) (ap (λ t. is_sign source 45 (the t)) it ∙ held) in
            let spans = range-is ((the token.0) ∷ []) (the token.0) [] p.1 refl (subst (IsSpan (range_in ((the token.0) ∷ []))) (sym ranges) (ranged value.1 a b both.1 (token ∷ []) whole slice is)) in
            (token ∷ [], (whole, (token.0, (refl, sign, third, spans))))
