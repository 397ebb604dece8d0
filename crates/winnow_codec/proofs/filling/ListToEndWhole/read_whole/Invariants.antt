use Rattle.std.proofs.Common.{◌≡◌, ℕ, List, ◌++◌, length}
use Rattle.winnow_codec.specs.Lists.{SpellsEach}
use Rattle.winnow_codec.specs.WholeFormats.{SpellsSome}
use Rattle.winnow_codec.proofs.filling.ListToEndWhole.read_whole.Given as goal

abbrev pub invariant-loop-rest : goal.invariant-loop-rest
invariant-loop-rest g l = (bytes : List ℕ) × (SpellsEach (SpellsSome (g.F.Format.spells l.self.item.inner)) l.items.items bytes
    × (l.part ≡ bytes ++ l.rest))

abbrev pub decreases-loop-rest : goal.decreases-loop-rest
decreases-loop-rest g l = length l.rest
