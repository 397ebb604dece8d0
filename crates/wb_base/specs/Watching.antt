-- When a line of progress is drawn, and what it says.
use Rattle.std.specs.Prelude.{ℕ, ◌+◌, ◌*◌, ◌/◌, ◌≤◌, min, max, Option, IfSome}
use Rattle.std.specs.Duration.{as_nanos}
use Rattle.std.specs.declared.time.Duration.{Duration}

-- a second has passed since the start, and a tenth of one since the line was drawn
abbrev pub IsDue : Option Duration → Duration → Type 0
IsDue drawn now = (1000000000 ≤ as_nanos now)
    × IfSome drawn (λ before. as_nanos before + 100000000 ≤ as_nanos now)

-- how many of a hundred parts were read, but no more than a hundred; nothing of nothing is all
abbrev pub percent_of : ℕ → ℕ → ℕ
percent_of done whole = min 100 (100 * done / max 1 whole)
