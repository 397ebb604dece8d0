-- Two parsers whose answers agree, and operators that are alike.
use Rattle.std.specs.Prelude.{◌≡◌, ℤ, Bool}
use Rattle.winnow_parser.specs.Outcome.{Ahead, Outcome, Meaning}
use Rattle.winnow_parser.specs.Determined.{IsGranted, Agree, IsDetermined}
use Rattle.winnow_expression.specs.declared.operators.Infix.{Infix}
use Rattle.winnow_expression.specs.declared.operators.Infix.TheVariants.{Left, Right, Neither}

-- an answer of the one parser agrees with each of the other, unless memory was refused
abbrev pub AnswersAgree : {O T : Type 0} → (O → O → Type 0) → Meaning O T → Meaning O T → Type 0
AnswersAgree {O} {T} same means other = (partial : Bool) (a : Ahead T) (v w : Outcome O T)
    → IsGranted v → IsGranted w → means partial a v → other partial a w → Agree same v w

-- two operators of one operand have the same power and are alike
abbrev pub AreAlikeUnary : {B : Type 0} → (B → B → Type 0) → ℤ × B → ℤ × B → Type 0
AreAlikeUnary alike p q = (p.0 ≡ q.0) × alike p.1 q.1

-- two infix operators bind from the same side, have the same power and are alike
abbrev pub AreAlikeInfix : {C : Type 0} → (C → C → Type 0) → Infix C → Infix C → Type 0
AreAlikeInfix alike (Left p x) (Left q y) = (p ≡ q) × alike x y
AreAlikeInfix alike (Left p x) (Right q y) = ⊥
AreAlikeInfix alike (Left p x) (Neither q y) = ⊥
AreAlikeInfix alike (Right p x) (Left q y) = ⊥
AreAlikeInfix alike (Right p x) (Right q y) = (p ≡ q) × alike x y
AreAlikeInfix alike (Right p x) (Neither q y) = ⊥
AreAlikeInfix alike (Neither p x) (Left q y) = ⊥
AreAlikeInfix alike (Neither p x) (Right q y) = ⊥
AreAlikeInfix alike (Neither p x) (Neither q y) = (p ≡ q) × alike x y

-- the parsers of operands and operators have one answer, and what alike operators make of values
-- that are the same agrees
pub record HasOneAnswer {O A B C T : Type 0} (same : O → O → Type 0) (a : A → A → Type 0) (b : B → B → Type 0) (c : C → C → Type 0) (operand : Meaning O T) (prefixes : Meaning (ℤ × A) T) (before : A → O → Meaning O T) (postfixes : Meaning (ℤ × B) T) (after : B → O → Meaning O T) (infixes : Meaning (Infix C) T) (joins : O → C → O → Meaning O T) : Type 0 where
  pub operands : IsDetermined same operand
  pub prefix_signs : IsDetermined (AreAlikeUnary a) prefixes
  pub prefixed : (p q : A) (x y : O) → a p q → same x y
      → AnswersAgree same (before p x) (before q y)
  pub postfix_signs : IsDetermined (AreAlikeUnary b) postfixes
  pub postfixed : (p q : B) (x y : O) → b p q → same x y
      → AnswersAgree same (after p x) (after q y)
  pub infix_signs : IsDetermined (AreAlikeInfix c) infixes
  pub joined : (x y : O) (p q : C) (z w : O) → same x y → c p q → same z w
      → AnswersAgree same (joins x p z) (joins y q w)
