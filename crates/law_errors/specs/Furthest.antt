-- The greater of two numbers.
use Rattle.std.specs.Prelude.{ℕ, ◌≡◌, max}
use Rattle.std.proofs.Common.{arith}

-- the greatest of three numbers is the same from the left and from the right
pub max-associative : (a b c : ℕ) → max (max a b) c ≡ max a (max b c)
max-associative a b c = omega arith
