-- Facts that each turn of a repetition keeps.
use Rattle.std.specs.Prelude.{ℕ, Bool, List, [], ◌∷◌, Option}
use Rattle.std.proofs.Common.{subst, arith}
use Rattle.winnow_parser.specs.Outcome.{Ahead, Failed, Backtracks, Gives, Fails, Meaning}
use Rattle.winnow_combinator.specs.Repeat.{Taking, InTurn, Repeats}

module _ {O T : Type 0} (inner : Meaning O T) (partial : Bool) (holds : Ahead T → Type 0) where
  -- a fact that each value keeps is true after the last one
  pub InTurn-keeps : ((x : O) (a b : Ahead T) → holds a → inner partial a (Gives x b) → holds b)
      → (xs : List O) (a b : Ahead T) → holds a → InTurn inner partial xs a b → holds b
  InTurn-keeps step [] a b h e = subst holds e h
  InTurn-keeps step (x ∷ xs) a b h t = InTurn-keeps step xs t.0 b (step x a t.0 h t.1.0) t.1.1

module _ {O T : Type 0} (greatest : Option ℕ) (inner : Meaning O T) (partial : Bool) (a : Ahead T) where
  -- a repetition fails where its parser fails, at a place where the kept fact is true
  pub Repeats-failed : (least : ℕ) (holds : Ahead T → Type 0)
      → ((x : O) (a b : Ahead T) → holds a → Taking inner partial a (Gives x b) → holds b)
      → (f : Failed T) → holds a → Repeats least greatest inner partial a (Fails f)
      → (c : Ahead T) × (holds c × Taking inner partial c (Fails f))
  Repeats-failed least holds step f h r =
      (r.1.0, (InTurn-keeps (Taking inner) partial holds step r.0 a r.1.0 h r.1.1.0, r.1.1.2.1))

  -- a repetition whose least count is 0 never backtracks
  pub Repeats-never-backtracks : (b : Ahead T)
      → ¬ (Repeats 0 greatest inner partial a (Fails (Backtracks b)))
  Repeats-never-backtracks b r = omega (arith, r.1.1.2.0)
