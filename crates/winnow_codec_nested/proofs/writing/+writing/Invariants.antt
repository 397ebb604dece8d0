use Rattle.std.proofs.Common.{◌≡◌, ℕ, ◌+◌, ◌*◌, List, ◌++◌, take, length}
use Rattle.winnow_codec.specs.Lists.{SpellsEach}
use Rattle.winnow_codec_nested.specs.Layered.{SpellsNested}
use Rattle.winnow_codec_nested.proofs.writing.+writing.Given as goal

abbrev pub decreases-write_inners : goal.decreases-write_inners
decreases-write_inners g l = 2 * l.depth + 1

abbrev pub decreases-write_value : goal.decreases-write_value
decreases-write_value g l = 2 * l.depth

abbrev pub invariant-write_inners-loop-index : goal.invariant-write_inners-loop-index
invariant-write_inners-loop-index g l = record {
  start : l.start ≡ length l.initial.bytes.items;
  spelled : (bytes : List ℕ)
      × (SpellsEach (SpellsNested (g.H.Format.spells l.heads) g.L.Layered.head_of g.L.Layered.held g.L.Layered.count_after l.depth) (take l.index (g.L.Layered.held l.value)) bytes
      × (l.bytes.items ≡ l.initial.bytes.items ++ bytes));
}
