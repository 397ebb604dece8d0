-- The operators between formulas: their powers, and the parts that they make.
use Rattle.std.proofs.Common.{◌≡◌, ◌==◌, ℕ, Bool, true, false, List, [], ◌∷◌, ◌++◌, Option, Some, None, refl, ap, sym, ◌∙◌, subst, inl, inr, arith}
use Rattle.std.specs.Prelude.{ℤ, pos, ◌<ℤ◌, if◌then◌else◌, IfSome, drop, Result, Ok, Err}
use Rattle.std.specs.declared.alloc.AllocError.{AllocError}
use Rattle.std.proofs.lemmas.Bool.Decides.{nat_tests}
use Rattle.std.proofs.lemmas.Option.{none-some, same_Some}
use Rattle.winnow_stream.specs.Source.{Source, first_token}
use Rattle.winnow_parser.specs.Outcome.{Meaning}
use Rattle.winnow_parser.specs.Meanings.{VerifyMaps}
use Rattle.winnow_token.specs.OneOf.{IsOneOf}
use Rattle.winnow_grammar.specs.Spelling.{tokens_of, IsSpelled}
use Rattle.winnow_expression.specs.declared.level.Level.{Level}
use Rattle.winnow_expression.specs.declared.level.Level.TheVariants.{AtLeast, Above}
use Rattle.winnow_expression.specs.declared.operators.Infix.{Infix}
use Rattle.winnow_expression.specs.declared.operators.Infix.TheVariants.{Left}
use Rattle.winnow_expression.specs.Levels.{Admits}
use Rattle.example_lexer.specs.declared.token.Token.{Token}
use Rattle.example_two_stages.specs.Formulas.{Part, Sum, Term, Factor, part_of, right_of, byte_of, term, factor}
use Rattle.example_two_stages.specs.Grammar.{WritesMade, IsInfix, operator_at, MissesNone}
use Rattle.example_two_stages.specs.Signs.{infix_by, infix_of}
use Rattle.example_two_stages.specs.declared.tree.Operator.{Operator}
use Rattle.example_two_stages.specs.declared.tree.Operator.TheVariants.{Plus, Minus, Times, Over}
use Rattle.example_two_stages.specs.declared.tree.Tree.{Tree}

-- the binding power of an operator
abbrev pub power : Operator → ℤ
power Plus = pos 1
power Minus = pos 1
power Times = pos 2
power Over = pos 2

-- ---- The operator that a token is

-- it is this operator, which this sign writes
abbrev pub IsOperator : ℕ → Infix Operator → Type 0
IsOperator sign i = (op : Operator) × ((i ≡ Left (power op) op) × (sign ≡ byte_of op))

is-over : (sign : ℕ) (i : Infix Operator) (b : Bool) → (47 == sign) ≡ b
    → (if b then Some (Left (pos 2) Over) else None) ≡ Some i → IsOperator sign i
is-over sign i true e h =
    let byte : sign ≡ 47 = grind (arith, nat_tests, e) in (Over, (sym (same_Some _ _ h), byte))
is-over sign i false e h = absurd (none-some _ h)

is-times : (sign : ℕ) (i : Infix Operator) (b : Bool) → (42 == sign) ≡ b
    → (if b then Some (Left (pos 2) Times) else if 47 == sign then Some (Left (pos 2) Over) else None) ≡ Some i
    → IsOperator sign i
is-times sign i true e h =
    let byte : sign ≡ 42 = grind (arith, nat_tests, e) in (Times, (sym (same_Some _ _ h), byte))
is-times sign i false e h = is-over sign i (47 == sign) refl h

is-minus : (sign : ℕ) (i : Infix Operator) (b : Bool) → (45 == sign) ≡ b
    → (if b then Some (Left (pos 1) Minus) else if 42 == sign then Some (Left (pos 2) Times)
    else if 47 == sign then Some (Left (pos 2) Over) else None) ≡ Some i
    → IsOperator sign i
is-minus sign i true e h =
    let byte : sign ≡ 45 = grind (arith, nat_tests, e) in (Minus, (sym (same_Some _ _ h), byte))
is-minus sign i false e h = is-times sign i (42 == sign) refl h

is-plus : (sign : ℕ) (i : Infix Operator) (b : Bool) → (43 == sign) ≡ b
    → (if b then Some (Left (pos 1) Plus) else if 45 == sign then Some (Left (pos 1) Minus)
    else if 42 == sign then Some (Left (pos 2) Times) else if 47 == sign then Some (Left (pos 2) Over) else None) ≡ Some i
    → IsOperator sign i
is-plus sign i true e h =
    let byte : sign ≡ 43 = grind (arith, nat_tests, e) in (Plus, (sym (same_Some _ _ h), byte))
is-plus sign i false e h = is-minus sign i (45 == sign) refl h

-- an operator has the power and the byte of one of the four
pub operator-by : (sign : Option ℕ) (i : Infix Operator) → infix_by sign ≡ Some i
    → (op : Operator) × ((i ≡ Left (power op) op) × (sign ≡ Some (byte_of op)))
operator-by None i h = absurd (none-some _ h)
operator-by (Some sign) i h =
    let r = is-plus sign i (43 == sign) refl h in (r.0, (r.1.0, ap Some r.1.1))

-- the byte of an operator is read as that operator
pub infix_by-byte : (op : Operator) → infix_by (Some (byte_of op)) ≡ Some (Left (power op) op)
infix_by-byte Plus = refl
infix_by-byte Minus = refl
infix_by-byte Times = refl
infix_by-byte Over = refl

-- ---- Parts

-- an operator of this part, or of a part inside it
abbrev pub Makes : Part → Operator → Type 0
Makes Sum op = Unit {0}
Makes Term op = part_of op ≡ Term
Makes Factor op = ⊥

-- a level admits the operators of a part alone
abbrev pub FitsPart : Part → Level → Type 0
FitsPart part level = (op : Operator) → Admits level (power op) → Makes part op

-- at level 0 are sums
pub fits-sum : FitsPart Sum (AtLeast (pos 0))
fits-sum op h = tt

-- after a minus is a factor
pub fits-minus : FitsPart Factor (AtLeast (pos 3))
fits-minus Plus h = omega (arith, h)
fits-minus Minus h = omega (arith, h)
fits-minus Times h = omega (arith, h)
fits-minus Over h = omega (arith, h)

-- what is right of an operator
pub fits-right : (op : Operator) → FitsPart (right_of op) (Above (power op))
fits-right Plus Plus h = absurd (omega (arith, h))
fits-right Plus Minus h = absurd (omega (arith, h))
fits-right Plus Times h = refl
fits-right Plus Over h = refl
fits-right Minus Plus h = absurd (omega (arith, h))
fits-right Minus Minus h = absurd (omega (arith, h))
fits-right Minus Times h = refl
fits-right Minus Over h = refl
fits-right Times Plus h = omega (arith, h)
fits-right Times Minus h = omega (arith, h)
fits-right Times Times h = omega (arith, h)
fits-right Times Over h = omega (arith, h)
fits-right Over Plus h = omega (arith, h)
fits-right Over Minus h = omega (arith, h)
fits-right Over Times h = omega (arith, h)
fits-right Over Over h = omega (arith, h)

module _ {T : Type 0} (the : T → Token) (source : List ℕ) (made : Result Tree AllocError) (ts : List T) where
  -- a term is a sum
  as-sum : (m : Result Tree AllocError) → WritesMade the source Term m ts
      → WritesMade the source Sum m ts
  as-sum (Ok tree) h = term h
  as-sum (Err e) h = tt

  -- a factor is a term
  as-term : (m : Result Tree AllocError) → WritesMade the source Factor m ts
      → WritesMade the source Term m ts
  as-term (Ok tree) h = factor h
  as-term (Err e) h = tt

  -- a factor is each part
  pub factor-as : (part : Part) → WritesMade the source Factor made ts
      → WritesMade the source part made ts
  factor-as Sum h = as-sum made (as-term made h)
  factor-as Term h = as-term made h
  factor-as Factor h = h

  -- what an operator makes is each part that has the operator
  pub made-as : (part : Part) (op : Operator) → Makes part op
      → WritesMade the source (part_of op) made ts → WritesMade the source part made ts
  made-as Sum Plus m h = h
  made-as Sum Minus m h = h
  made-as Sum Times m h = as-sum made h
  made-as Sum Over m h = as-sum made h
  made-as Term op m h = subst (λ part. WritesMade the source part made ts) m h
  made-as Factor op m h = absurd m

  -- what an operator makes is the left side of each that binds no stronger
  pub left-as : (op next : Operator) → ¬ (power op <ℤ power next)
      → WritesMade the source (part_of op) made ts → WritesMade the source (part_of next) made ts
  left-as Plus Plus n h = h
  left-as Plus Minus n h = h
  left-as Plus Times n h = absurd (n (omega arith))
  left-as Plus Over n h = absurd (n (omega arith))
  left-as Minus Plus n h = h
  left-as Minus Minus n h = h
  left-as Minus Times n h = absurd (n (omega arith))
  left-as Minus Over n h = absurd (n (omega arith))
  left-as Times Plus n h = as-sum made h
  left-as Times Minus n h = as-sum made h
  left-as Times Times n h = h
  left-as Times Over n h = h
  left-as Over Plus n h = as-sum made h
  left-as Over Minus n h = as-sum made h
  left-as Over Times n h = h
  left-as Over Over n h = h

-- ---- The parser of operators

module _ {T : Type 0} (the : T → Token) (source : List ℕ) where
  -- the parser of an operator between two formulas
  abbrev pub Infixes : Meaning (Infix Operator) T
  Infixes = VerifyMaps (λ token found. found ≡ infix_of source (the token)) (IsOneOf (λ token. true))

  -- what is taken for an operator is that token
  pub infixes-spelled : IsSpelled (IsInfix the source) Infixes
  infixes-spelled partial a b i wide (x, (gives, (first, held, place))) =
      by a.tokens first (ap (λ p. p.tokens) place)
    where
      by : (r : Source T) → first_token r ≡ Some x → b.tokens ≡ drop 1 r
          → (taken : Source T) × ((r ≡ taken ++ b.tokens) × IsInfix the source i (tokens_of taken))
      by [] e p = absurd (none-some _ e)
      by (token ∷ rest) e p =
          (token ∷ [], (ap (λ t. token ∷ t) (sym p), (token.0, (refl, ap (λ t. infix_of source (the t)) (same_Some _ _ e) ∙ sym gives))))

  -- where no operator is read, the first token is none
  pub infixes-miss : MissesNone the source Infixes
  infixes-miss partial a c (inl (refused, more, same)) = by a.tokens refused
    where
      by : (r : Source T) → IfSome (first_token r) (λ x. true ≡ false)
          → operator_at the source r ≡ None
      by [] h = refl
      by (token ∷ rest) h = absurd (cc h)
  infixes-miss partial a c (inr (same, (x, (d, ((first, held, place), gives))))) = by a.tokens first
    where
      by : (r : Source T) → first_token r ≡ Some x → operator_at the source r ≡ None
      by [] e = refl
      by (token ∷ rest) e = ap (λ t. infix_of source (the t)) (same_Some _ _ e) ∙ sym gives
