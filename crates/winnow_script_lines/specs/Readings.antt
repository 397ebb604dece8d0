-- What is read from words that may mean nothing.
use Rattle.std.specs.Prelude.{ℕ, List, Option, MatchOption}

module _ {T : Type 0} (Denotes : List ℕ → T → Type 0) where
  -- the words mean nothing
  abbrev pub DenotesNothing : List ℕ → Type 0
  DenotesNothing words = (item : T) → ¬ (Denotes words item)

  -- what is read from words: what they mean, or `None` if they mean nothing
  abbrev pub IsReading : List ℕ → Option T → Type 0
  IsReading words found = MatchOption found (DenotesNothing words) (Denotes words)
