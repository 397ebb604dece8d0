-- When two answers to what a feed waits for are equal.
use Rattle.std.specs.Prelude.{Bool, true, false}
use Rattle.winnow_script_feed.specs.declared.waiting.Waiting.{Waiting}
use Rattle.winnow_script_feed.specs.declared.waiting.Waiting.TheVariants.{NotFed, NotWaiting, Until, ToEnd}

-- whether they are of one kind and what they wait for is equal
abbrev pub same_waiting : {P : Type 0} → (P → P → Bool) → Waiting P → Waiting P → Bool
same_waiting eq NotFed NotFed = true
same_waiting eq NotWaiting NotWaiting = true
same_waiting eq (Until p) (Until q) = eq p q
same_waiting eq ToEnd ToEnd = true
same_waiting eq s t = false
