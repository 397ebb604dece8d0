use Rattle.std.proofs.Common.{◌≡◌, ℕ, List, ◌++◌, take}
use Rattle.winnow_codec.specs.Lists.{SpellsEach}
use Rattle.winnow_codec.proofs.lists.write_items.Given as goal

abbrev pub invariant-loop-value : goal.invariant-loop-value
invariant-loop-value g l = (spelled : List ℕ) × (SpellsEach (g.F.Format.spells l.item) (take l.value-index l.values) spelled
    × (l.bytes.items ≡ l.initial.bytes.items ++ spelled))
