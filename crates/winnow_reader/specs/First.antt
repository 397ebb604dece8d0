-- The first tokens ahead, and the others after them.
use Rattle.std.specs.Prelude.{ℕ, nat_lt, Bool, ◌||◌, length, take, drop}
use Rattle.winnow_parser.specs.Outcome.{Ahead}
use Rattle.winnow_parser.specs.Laws.{longer}

module _ (n : ℕ) where
  -- the first n tokens ahead, or all where they are fewer, at the same place
  abbrev pub first_ahead : Ahead ℕ → Ahead ℕ
  first_ahead a = record { location = a.location; tokens = take n a.tokens }

  -- the place where c is left of these first tokens, with the others after it
  abbrev pub left_ahead : Ahead ℕ → Ahead ℕ → Ahead ℕ
  left_ahead a c = longer (drop n a.tokens) c

  -- whether a record that is asked of these first tokens is told that more may follow: if it may,
  -- or if others come after them
  abbrev pub goes_on : Bool → Ahead ℕ → Bool
  goes_on partial a = partial || nat_lt n (length a.tokens)
