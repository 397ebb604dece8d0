-- The conditions under which brackets do not change the error of many alternatives.
use Rattle.std.specs.Prelude.{◌≡◌}

-- each error that `or` gives for two errors is the function's value at them
abbrev pub GivesOnly : {E : Type 0} → (E → E → E → Type 0) → (E → E → E) → Type 0
GivesOnly {E} gives join = (a b r : E) → gives a b r → r ≡ join a b

-- three errors have one value, whichever two are joined first
abbrev pub IsAssociative : {E : Type 0} → (E → E → E) → Type 0
IsAssociative {E} join = (a b c : E) → join (join a b) c ≡ join a (join b c)
