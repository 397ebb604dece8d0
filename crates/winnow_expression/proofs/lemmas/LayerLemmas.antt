-- The answers of a layer: an operand, and the operators after it.
use Rattle.std.proofs.Common.{◌≡◌, ℕ, ◌-◌, ◌<◌, ◌∷◌, [], ◌++◌, refl, sym, subst, inl, inr}
use Rattle.std.specs.Prelude.{ℤ, Bool, List, Option, None}
use Rattle.winnow_parser.specs.Outcome.{Ahead, Failed, Backtracks, Cuts, Needs, Refuses, Outcome, Gives, Fails, Meaning}
use Rattle.winnow_parser.specs.Meanings.{IsAlt2}
use Rattle.winnow_expression.specs.Then.{Then}
use Rattle.winnow_expression.specs.Turns.{InTurns, ended, Climbs}
use Rattle.winnow_expression.specs.Expression.{IsPrefixed, IsOperand, IsNext, IsExpression, IsExpression-suc}
use Rattle.winnow_expression.specs.declared.level.Level.{Level}
use Rattle.winnow_expression.specs.declared.level.Level.TheVariants.{AtLeast}
use Rattle.winnow_expression.specs.declared.operators.Infix.{Infix}
use Rattle.winnow_expression.specs.declared.turn.Turn.{Turn}
use Rattle.winnow_expression.specs.declared.turn.Turn.TheVariants.{Went}
use Rattle.winnow_expression.proofs.lemmas.ThenLemmas.{Then-goes}

-- where the first parser backtracks, an answer of the second from there is one of both
pub IsAlt2-second : {O T : Type 0} (first second : Meaning O T) (partial : Bool)
    (a b c : Ahead T) (v : Outcome O T) → a ≡ b → first partial a (Fails (Backtracks c))
    → second partial b v → IsAlt2 ⊥ first second partial a v
IsAlt2-second first second partial a b c (Gives x d) e h k =
    inr (c, (h, subst (λ p. second partial p (Gives x d)) (sym e) k))
IsAlt2-second first second partial a b c (Fails (Backtracks d)) e h k =
    (c, (h, subst (λ p. second partial p (Fails (Backtracks d))) (sym e) k))
IsAlt2-second first second partial a b c (Fails (Cuts d)) e h k =
    inr (c, (h, subst (λ p. second partial p (Fails (Cuts d))) (sym e) k))
IsAlt2-second first second partial a b c (Fails (Needs n)) e h k =
    inr (c, (h, subst (λ p. second partial p (Fails (Needs n))) (sym e) k))
IsAlt2-second first second partial a b c (Fails Refuses) e h k =
    inr (c, (h, inl (subst (λ p. second partial p (Fails Refuses)) (sym e) k)))

module _ {O T : Type 0} (turn : O → Option ℤ → Meaning (Turn O) T) (partial : Bool) where
  -- one more turn after some turns
  pub InTurns-more : (us : List (O × Option ℤ)) (s t u : O × Option ℤ) (a b c : Ahead T)
      → InTurns turn partial us s t a b → turn t.0 t.1 partial b (Gives (Went u.0 u.1) c)
      → InTurns turn partial (us ++ u ∷ []) s u a c
  InTurns-more [] s t u a b c h k =
      let at_t = subst (λ p. turn t.0 t.1 partial p (Gives (Went u.0 u.1) c)) (sym h.1) k in
      (c, (subst (λ p. turn p.0 p.1 partial a (Gives (Went u.0 u.1) c)) (sym h.0) at_t, (refl, refl)))
  InTurns-more (w ∷ ws) s t u a b c h k = (h.0, (h.1.0, InTurns-more ws w t u h.0 b c h.1.1 k))

module _ {O A B C T : Type 0} (operand : Meaning O T) (prefixes : Meaning (ℤ × A) T) (before : A → O → Meaning O T) (postfixes : Meaning (ℤ × B) T) (after : B → O → Meaning O T) (infixes : Meaning (Infix C) T) (joins : O → C → O → Meaning O T) where
  -- an expression of this depth and level
  abbrev Expr : ℕ → Level → Meaning O T
  Expr = IsExpression operand prefixes before postfixes after infixes joins

  -- one more operator, with right sides of this depth
  abbrev Next : ℕ → Level → O → Option ℤ → Meaning (Turn O) T
  Next depth = IsNext operand prefixes before postfixes after infixes joins (Expr depth)

  -- an operand, turns and an end are an expression
  pub expression-goes : (depth : ℕ) (level : Level) (partial : Bool) (x : O)
      (us : List (O × Option ℤ)) (t : O × Option ℤ) (a b c : Ahead T) (v : Outcome O T) → 0 < depth
      → IsOperand operand prefixes before postfixes after infixes joins (Expr (depth - 1)) partial a (Gives x b)
      → InTurns (Next (depth - 1) level) partial us (x, None) t b c
      → Next (depth - 1) level t.0 t.1 partial c (ended v) → Expr depth level partial a v
  expression-goes depth level partial x us t a b c v deep first turns last =
      let climbs = Then-goes (IsOperand operand prefixes before postfixes after infixes joins (Expr (depth - 1))) (λ y. Climbs (Next (depth - 1) level) (y, None)) partial a b x v first (us, (t, (c, (turns, last)))) in
      subst (λ means. means partial a v) (IsExpression-suc operand prefixes before postfixes after infixes joins depth level deep) climbs

  module _ (side : Level → Meaning O T) (partial : Bool) where
    -- where the operand backtracks, an answer of a prefix operator and its operand is one of both
    pub operand-prefixed : (a b c : Ahead T) (v : Outcome O T) → a ≡ b
        → operand partial a (Fails (Backtracks c))
        → IsPrefixed operand prefixes before postfixes after infixes joins side partial b v
        → IsOperand operand prefixes before postfixes after infixes joins side partial a v
    operand-prefixed a b c v = IsAlt2-second operand (IsPrefixed operand prefixes before postfixes after infixes joins side) partial a b c v

    -- the operand of a prefix operator is read, and the operator applied
    pub prefixed-goes : (a b c : Ahead T) (p : ℤ × A) (x : O) (v : Outcome O T)
        → prefixes partial a (Gives p b) → side (AtLeast p.0) partial b (Gives x c)
        → before p.1 x partial c v
        → IsPrefixed operand prefixes before postfixes after infixes joins side partial a v
    prefixed-goes a b c p x v h k l =
        Then-goes prefixes (λ q. Then (side (AtLeast q.0)) (before q.1)) partial a b p v h (Then-goes (side (AtLeast p.0)) (before p.1) partial b c x v k l)

    -- the operand of a prefix operator fails
    pub prefixed-fails : (a b : Ahead T) (p : ℤ × A) (f : Failed T) → prefixes partial a (Gives p b)
        → side (AtLeast p.0) partial b (Fails f)
        → IsPrefixed operand prefixes before postfixes after infixes joins side partial a (Fails f)
    prefixed-fails a b p f h k =
        Then-goes prefixes (λ q. Then (side (AtLeast q.0)) (before q.1)) partial a b p (Fails f) h (inl k)
