-- The two ends of a repetition that gives values.
use Rattle.std.specs.Prelude.{◌≡◌, ℕ, ◌≤◌, Bool, List, length, Option, Some, None}
use Rattle.std.proofs.Common.{refl, subst, inl, inr}
use Rattle.winnow_parser.specs.Outcome.{Ahead, Backtracks, Gives, Fails, Meaning}
use Rattle.winnow_combinator.specs.Counts.{IsBelow}
use Rattle.winnow_combinator.specs.Repeat.{Taking, InTurn, OneMore, Repeats}

module _ {O T : Type 0} (least : ℕ) (greatest : Option ℕ) (inner : Meaning O T) (partial : Bool) (xs : List O) (a b : Ahead T) where
  -- the repetition ends where the parser backtracks after enough values
  pub Repeats-ended : (c : Ahead T) → InTurn (Taking inner) partial xs a b
      → IsBelow greatest (length xs)
      → OneMore least (length xs) (Taking inner) partial b (Gives None c)
      → Repeats least greatest inner partial a (Gives xs c)
  Repeats-ended c turns below none = (
    subst (InTurn (Taking inner) partial xs a) none.0 turns,
    none.1,
    inr (
      below,
      (refl, none.1, (none.2.0, subst (λ s. Taking inner partial s (Fails (Backtracks none.2.0))) none.0 none.2.1)),
    ),
  )

  -- the repetition ends at the greatest count
  pub Repeats-full : InTurn (Taking inner) partial xs a b → least ≤ length xs
      → greatest ≡ Some (length xs) → Repeats least greatest inner partial a (Gives xs b)
  Repeats-full turns enough full = (turns, enough, inl full)
