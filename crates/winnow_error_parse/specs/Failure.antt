-- The contents of a whole parse's error.
use Rattle.std.specs.Prelude.{ℕ}

-- the input as it stood where the parse began, the offset from there to the error, and the inner
-- error
pub record Failure (I : Type 0) (E : Type 0) : Type 0 where
  pub input : I
  pub offset : ℕ
  pub inner : E
