-- How many replies open arrays want, in an array of numbers.
use Rattle.std.specs.Prelude.{ℕ, zero, suc, List, [], ◌∷◌, get_or, Option, Some, None}

-- the first n numbers, the last of them first
abbrev pub last_first : ℕ → List ℕ → List ℕ
last_first zero numbers = []
last_first (suc n) numbers = get_or numbers n 0 ∷ last_first n numbers

-- how many more replies are wanted in each open array once the next has begun; `None` where no
-- array wants one
abbrev pub with_next : List ℕ → Option (List ℕ)
with_next [] = None
with_next (zero ∷ ns) = with_next ns
with_next (suc n ∷ ns) = Some (n ∷ ns)
