-- An expression whose operands and operators have one answer has one answer.
use Rattle.std.specs.Prelude.{ℤ}
use Rattle.std.proofs.Common.{◌≡◌, ℕ, zero, suc, Option, Some, None, inl, inr, refl, ap, sym, ◌∙◌, subst}
use Rattle.winnow_parser.specs.Outcome.{Backtracks, Cuts, Needs, Refuses, Gives, Fails, Meaning}
use Rattle.winnow_parser.specs.Meanings.{Maps, CutsErr}
use Rattle.winnow_parser.specs.Determined.{IsDetermined}
use Rattle.winnow_parser.proofs.lemmas.DeterminedLemmas.{determined-alt2}
use Rattle.winnow_combinator.specs.Ending.{IsFail}
use Rattle.winnow_expression.specs.Levels.{Admits, MayFollow}
use Rattle.winnow_expression.specs.Powers.{power_of, right_of, alone_of, operator_of}
use Rattle.winnow_expression.specs.Then.{Then}
use Rattle.winnow_expression.specs.Found.{Found, Fits, Unfit, Absent, IsFound}
use Rattle.winnow_expression.specs.Turns.{WentOn, IsJoined, IsFollowed, IsTurn, Climbs}
use Rattle.winnow_expression.specs.Expression.{IsPrefixed, IsOperand, IsNext, IsLayer, IsExpression}
use Rattle.winnow_expression.specs.Agreeing.{AnswersAgree, AreAlikeUnary, AreAlikeInfix, HasOneAnswer}
use Rattle.winnow_expression.specs.declared.level.Level.{Level}
use Rattle.winnow_expression.specs.declared.level.Level.TheVariants.{AtLeast, Above}
use Rattle.winnow_expression.specs.declared.operators.Infix.{Infix}
use Rattle.winnow_expression.specs.declared.operators.Infix.TheVariants.{Left, Right, Neither}
use Rattle.winnow_expression.specs.declared.turn.Turn.TheVariants.{Ended}
use Rattle.winnow_expression.proofs.lemmas.AgreeingThenLemmas.{agree-then, agree-returns}
use Rattle.winnow_expression.proofs.lemmas.AgreeingTurnLemmas.{AreFound, agree-found, AreTurns, agree-went, agree-advancing, agree-climbs}

-- ---- Alike infix operators

module _ {C : Type 0} (alike : C → C → Type 0) where
  -- they have the same power
  alike-power : (i j : Infix C) → AreAlikeInfix alike i j → power_of i ≡ power_of j
  alike-power (Left p x) (Left q y) h = h.0
  alike-power (Left p x) (Right q y) h = absurd h
  alike-power (Left p x) (Neither q y) h = absurd h
  alike-power (Right p x) (Left q y) h = absurd h
  alike-power (Right p x) (Right q y) h = h.0
  alike-power (Right p x) (Neither q y) h = absurd h
  alike-power (Neither p x) (Left q y) h = absurd h
  alike-power (Neither p x) (Right q y) h = absurd h
  alike-power (Neither p x) (Neither q y) h = h.0

  -- the same operators stand on their right sides
  alike-right : (i j : Infix C) → AreAlikeInfix alike i j → right_of i ≡ right_of j
  alike-right (Left p x) (Left q y) h = ap Above h.0
  alike-right (Left p x) (Right q y) h = absurd h
  alike-right (Left p x) (Neither q y) h = absurd h
  alike-right (Right p x) (Left q y) h = absurd h
  alike-right (Right p x) (Right q y) h = ap AtLeast h.0
  alike-right (Right p x) (Neither q y) h = absurd h
  alike-right (Neither p x) (Left q y) h = absurd h
  alike-right (Neither p x) (Right q y) h = absurd h
  alike-right (Neither p x) (Neither q y) h = ap Above h.0

  -- the same operators may not follow them
  alike-alone : (i j : Infix C) → AreAlikeInfix alike i j → alone_of i ≡ alone_of j
  alike-alone (Left p x) (Left q y) h = refl
  alike-alone (Left p x) (Right q y) h = absurd h
  alike-alone (Left p x) (Neither q y) h = absurd h
  alike-alone (Right p x) (Left q y) h = absurd h
  alike-alone (Right p x) (Right q y) h = refl
  alike-alone (Right p x) (Neither q y) h = absurd h
  alike-alone (Neither p x) (Left q y) h = absurd h
  alike-alone (Neither p x) (Right q y) h = absurd h
  alike-alone (Neither p x) (Neither q y) h = ap Some h.0

  -- they are alike without their powers
  alike-operator : (i j : Infix C) → AreAlikeInfix alike i j
      → alike (operator_of i) (operator_of j)
  alike-operator (Left p x) (Left q y) h = h.1
  alike-operator (Left p x) (Right q y) h = absurd h
  alike-operator (Left p x) (Neither q y) h = absurd h
  alike-operator (Right p x) (Left q y) h = absurd h
  alike-operator (Right p x) (Right q y) h = h.1
  alike-operator (Right p x) (Neither q y) h = absurd h
  alike-operator (Neither p x) (Left q y) h = absurd h
  alike-operator (Neither p x) (Right q y) h = absurd h
  alike-operator (Neither p x) (Neither q y) h = h.1

-- a cut has one answer
one-cut : {O T : Type 0} (same : O → O → Type 0) → IsDetermined {T = T} same (CutsErr IsFail)
one-cut same partial a (Gives x b) w s t h k = absurd h
one-cut same partial a (Fails (Backtracks b)) w s t h k = absurd h
one-cut same partial a (Fails (Cuts b)) (Gives y c) s t h k = absurd k
one-cut same partial a (Fails (Cuts b)) (Fails (Backtracks c)) s t h k = absurd k
one-cut same partial a (Fails (Cuts b)) (Fails (Cuts c)) s t (inl h) (inl k) = ap Cuts (sym h ∙ k)
one-cut same partial a (Fails (Cuts b)) (Fails (Cuts c)) s t (inl h) (inr k) = absurd k
one-cut same partial a (Fails (Cuts b)) (Fails (Cuts c)) s t (inr h) k = absurd h
one-cut same partial a (Fails (Cuts b)) (Fails (Needs n)) s t h k = absurd k
one-cut same partial a (Fails (Cuts b)) (Fails Refuses) s t h k = absurd k
one-cut same partial a (Fails (Needs n)) w s t h k = absurd h
one-cut same partial a (Fails Refuses) w s t h k = absurd h

module _ {O A B C T : Type 0} (same : O → O → Type 0) (a : A → A → Type 0) (b : B → B → Type 0) (c : C → C → Type 0) (operand : Meaning O T) (prefixes : Meaning (ℤ × A) T) (before : A → O → Meaning O T) (postfixes : Meaning (ℤ × B) T) (after : B → O → Meaning O T) (infixes : Meaning (Infix C) T) (joins : O → C → O → Meaning O T) (one : HasOneAnswer same a b c operand prefixes before postfixes after infixes joins) where
  module _ (side : Level → Meaning O T) (d : (level : Level) → IsDetermined same (side level)) where
    -- right sides of the same level agree
    sides : (l m : Level) → l ≡ m → AnswersAgree same (side l) (side m)
    sides l m e = subst (λ n. AnswersAgree same (side l) (side n)) e (d l)

    -- a prefix operator with its operand has one answer
    one-prefixed : IsDetermined same
        (IsPrefixed operand prefixes before postfixes after infixes joins side)
    one-prefixed =
        agree-then (AreAlikeUnary a) same prefixes prefixes (λ p. Then (side (AtLeast p.0)) (before p.1)) (λ p. Then (side (AtLeast p.0)) (before p.1)) one.prefix_signs
        (λ p q e. agree-then same same (side (AtLeast p.0)) (side (AtLeast q.0)) (before p.1) (before q.1) (sides (AtLeast p.0) (AtLeast q.0) (ap AtLeast e.0)) (λ x y f. one.prefixed p.1 q.1 x y e.1 f))

    -- an operand has one answer
    one-operand : IsDetermined same
        (IsOperand operand prefixes before postfixes after infixes joins side)
    one-operand = determined-alt2 ⊥ same operand (IsPrefixed operand prefixes before postfixes after infixes joins side) one.operands one-prefixed

    module _ (level : Level) (x y : O) (e : same x y) where
      -- what becomes of an infix operator agrees
      joined-agree : (f g : Found (Infix C)) → AreFound (AreAlikeInfix c) f g
          → AnswersAgree (AreTurns same) (IsJoined postfixes after infixes joins side level x f) (IsJoined postfixes after infixes joins side level y g)
      joined-agree (Fits i) (Fits j) h =
          agree-then same (AreTurns same) (side (right_of i)) (side (right_of j)) (λ z. Maps (WentOn (alone_of i)) (joins x (operator_of i) z)) (λ z. Maps (WentOn (alone_of j)) (joins y (operator_of j) z)) (sides (right_of i) (right_of j) (alike-right c i j h))
          (λ z w k. agree-went same (joins x (operator_of i) z) (joins y (operator_of j) w) (alone_of i) (alone_of j) (alike-alone c i j h) (one.joined x y (operator_of i) (operator_of j) z w e (alike-operator c i j h) k))
      joined-agree (Fits i) Unfit h = absurd h
      joined-agree (Fits i) Absent h = absurd h
      joined-agree Unfit (Fits j) h = absurd h
      joined-agree Unfit Unfit h = agree-returns (AreTurns same) (Ended x) (Ended y) e
      joined-agree Unfit Absent h = absurd h
      joined-agree Absent (Fits j) h = absurd h
      joined-agree Absent Unfit h = absurd h
      joined-agree Absent Absent h = agree-returns (AreTurns same) (Ended x) (Ended y) e

      module _ (n m : Option ℤ) (k : n ≡ m) where
        -- an infix operator that fits after one power fits after the other
        fits-on : (i j : Infix C) → AreAlikeInfix c i j → MayFollow level n (power_of i)
            → MayFollow level m (power_of j)
        fits-on i j h f = subst (λ o. MayFollow level o (power_of j)) k (subst (MayFollow level n) (alike-power c i j h) f)

        -- and the other way round
        fits-back : (i j : Infix C) → AreAlikeInfix c i j → MayFollow level m (power_of j)
            → MayFollow level n (power_of i)
        fits-back i j h f =
            subst (λ o. MayFollow level o (power_of i)) (sym k) (subst (MayFollow level m) (sym (alike-power c i j h)) f)

        -- what becomes of a postfix operator agrees
        followed-agree : (f g : Found (ℤ × B)) → AreFound (AreAlikeUnary b) f g
            → AnswersAgree (AreTurns same) (IsFollowed postfixes after infixes joins side level x n f) (IsFollowed postfixes after infixes joins side level y m g)
        followed-agree (Fits p) (Fits q) h = agree-went same (after p.1 x) (after q.1 y) n m k (one.postfixed p.1 q.1 x y h.1 e)
        followed-agree (Fits p) Unfit h = absurd h
        followed-agree (Fits p) Absent h = absurd h
        followed-agree Unfit (Fits q) h = absurd h
        followed-agree Unfit Unfit h = agree-returns (AreTurns same) (Ended x) (Ended y) e
        followed-agree Unfit Absent h = absurd h
        followed-agree Absent (Fits q) h = absurd h
        followed-agree Absent Unfit h = absurd h
        followed-agree Absent Absent h =
            let fits = λ (i : Infix C). MayFollow level n (power_of i) in
            let other = λ (i : Infix C). MayFollow level m (power_of i) in
            agree-then (AreFound (AreAlikeInfix c)) (AreTurns same) (IsFound fits infixes) (IsFound other infixes) (IsJoined postfixes after infixes joins side level x) (IsJoined postfixes after infixes joins side level y)
            (agree-found (AreAlikeInfix c) fits other infixes one.infix_signs fits-on fits-back) joined-agree

        -- turns agree
        turn-agree : AnswersAgree (AreTurns same)
            (IsTurn postfixes after infixes joins side level x n)
            (IsTurn postfixes after infixes joins side level y m)
        turn-agree =
            let fits = λ (p : ℤ × B). Admits level p.0 in
            agree-then (AreFound (AreAlikeUnary b)) (AreTurns same) (IsFound fits postfixes) (IsFound fits postfixes) (IsFollowed postfixes after infixes joins side level x n) (IsFollowed postfixes after infixes joins side level y m)
            (agree-found (AreAlikeUnary b) fits fits postfixes one.postfix_signs (λ p q h f. subst (Admits level) h.0 f) (λ p q h f. subst (Admits level) (sym h.0) f)) followed-agree

    -- a layer has one answer
    one-layer : (level : Level) → IsDetermined same
        (IsLayer operand prefixes before postfixes after infixes joins side level)
    one-layer level =
        let turn = IsNext operand prefixes before postfixes after infixes joins side level in
        agree-then same same (IsOperand operand prefixes before postfixes after infixes joins side) (IsOperand operand prefixes before postfixes after infixes joins side) (λ x. Climbs turn (x, None)) (λ x. Climbs turn (x, None)) one-operand
        (λ x y e. agree-climbs same turn turn (λ z w n m f k. agree-advancing same (IsTurn postfixes after infixes joins side level z n) (IsTurn postfixes after infixes joins side level w m) (turn-agree level z w f n m k)) (x, None) (y, None) e refl)

  -- an expression has one answer
  pub determined-expression : (depth : ℕ) (level : Level)
      → IsDetermined same (IsExpression operand prefixes before postfixes after infixes joins depth level)
  determined-expression zero level = one-cut same
  determined-expression (suc depth) level =
      one-layer (IsExpression operand prefixes before postfixes after infixes joins depth) (determined-expression depth) level
