-- Functions as tests of values.
use Rattle.std.specs.Prelude.{◌≡◌}
use Rattle.std.specs.Fn.{Shared}
use Rattle.std.specs.Borrow.{Bor}

-- the function may be called at a reference to x
abbrev pub TakesAt : {F T R : Type 0} → Shared F (Bor T × Unit {0}) R → F → T → Type 0
TakesAt {F} {T} g f x = (shown : Bor T) → shown.now ≡ x → g.pre f (shown, tt)
