-- The meaning of an expression: by recursion over the number of layers that it may have.
use Rattle.std.specs.Prelude.{◌≡◌, ℕ, zero, suc, ◌-◌, ◌<◌, ℤ, Option, None}
use Rattle.std.proofs.Common.{refl, ap, arith}
use Rattle.winnow_parser.specs.Outcome.{Meaning}
use Rattle.winnow_parser.specs.Laws.{IsParser}
use Rattle.winnow_parser.specs.Meanings.{IsAlt2, CutsErr}
use Rattle.winnow_parser.specs.Parts.{IsParser-IsAlt2, IsParser-CutsErr}
use Rattle.winnow_combinator.specs.Ending.{IsFail, IsParser-IsFail}
use Rattle.winnow_expression.specs.Then.{Then, IsParser-Then}
use Rattle.winnow_expression.specs.Turns.{IsTurn, Advancing, Climbs, IsParser-IsTurn, IsParser-Advancing, IsParser-Climbs}
use Rattle.winnow_expression.specs.declared.level.Level.{Level}
use Rattle.winnow_expression.specs.declared.level.Level.TheVariants.{AtLeast}
use Rattle.winnow_expression.specs.declared.operators.Infix.{Infix}
use Rattle.winnow_expression.specs.declared.turn.Turn.{Turn}

module _ {O A B C T : Type 0} (operand : Meaning O T) (prefixes : Meaning (ℤ × A) T) (before : A → O → Meaning O T) (postfixes : Meaning (ℤ × B) T) (after : B → O → Meaning O T) (infixes : Meaning (Infix C) T) (joins : O → C → O → Meaning O T) where
  -- a prefix operator, and an expression of operators of its power and greater ones, to which it is
  -- applied
  abbrev pub IsPrefixed : (Level → Meaning O T) → Meaning O T
  IsPrefixed side = Then prefixes (λ p. Then (side (AtLeast p.0)) (before p.1))

  -- an operand, or, where it backtracks, a prefix operator with what it is applied to
  abbrev pub IsOperand : (Level → Meaning O T) → Meaning O T
  IsOperand side = IsAlt2 ⊥ operand (IsPrefixed side)

  -- one more operator, with what is right of it; an operator takes something
  abbrev pub IsNext : (Level → Meaning O T) → Level → O → Option ℤ → Meaning (Turn O) T
  IsNext side level x alone = Advancing (IsTurn postfixes after infixes joins side level x alone)

  -- an operand, and then operators, each of a power that the level admits
  abbrev pub IsLayer : (Level → Meaning O T) → Level → Meaning O T
  IsLayer side level = Then (IsOperand side) (λ x. Climbs (IsNext side level) (x, None))

  -- an expression of operators that the level admits, of at most this many layers
  abbrev pub IsExpression : ℕ → Level → Meaning O T
  IsExpression zero level = CutsErr IsFail
  IsExpression (suc depth) level = IsLayer (IsExpression depth) level

  -- an expression without layers is a cut
  pub IsExpression-zero : (depth : ℕ) (level : Level) → depth ≡ 0
      → CutsErr IsFail ≡ IsExpression depth level
  IsExpression-zero zero level e = refl
  IsExpression-zero (suc depth) level e = cc

  -- an expression with layers is a layer, and inside of it are expressions of one layer less
  pub IsExpression-suc : (depth : ℕ) (level : Level) → 0 < depth
      → IsLayer (IsExpression (depth - 1)) level ≡ IsExpression depth level
  IsExpression-suc zero level l = absurd (omega (arith, l))
  IsExpression-suc (suc depth) level l = ap (λ n. IsLayer (IsExpression n) level) (omega arith)

module _ {O A B C T : Type 0} {operand : Meaning O T} {prefixes : Meaning (ℤ × A) T} {before : A → O → Meaning O T} {postfixes : Meaning (ℤ × B) T} {after : B → O → Meaning O T} {infixes : Meaning (Infix C) T} {joins : O → C → O → Meaning O T} (o : IsParser operand) (p : IsParser prefixes) (ps : (x : A) (y : O) → IsParser (before x y)) (q : IsParser postfixes) (qs : (x : B) (y : O) → IsParser (after x y)) (r : IsParser infixes) (rs : (x : O) (y : C) (z : O) → IsParser (joins x y z)) where
  -- `IsLayer` keeps the laws of a parser
  IsParser-IsLayer : {side : Level → Meaning O T} → ((level : Level) → IsParser (side level))
      → (level : Level) → IsParser (IsLayer operand prefixes before postfixes after infixes joins side level)
  IsParser-IsLayer {side} sides level =
      let prefixed = IsParser-Then p (λ x. IsParser-Then (sides (AtLeast x.0)) (ps x.1)) in
      IsParser-Then (IsParser-IsAlt2 ⊥ operand (IsPrefixed operand prefixes before postfixes after infixes joins side) o prefixed)
      (λ x. IsParser-Climbs (λ y alone. IsParser-Advancing (IsParser-IsTurn q qs r rs sides level y alone)) (x, None))

  -- `IsExpression` keeps the laws of a parser
  pub IsParser-IsExpression : (depth : ℕ) (level : Level)
      → IsParser (IsExpression operand prefixes before postfixes after infixes joins depth level)
  IsParser-IsExpression zero level = IsParser-CutsErr IsFail IsParser-IsFail
  IsParser-IsExpression (suc depth) level = IsParser-IsLayer (IsParser-IsExpression depth) level
