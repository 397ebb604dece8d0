use Rattle.std.proofs.Common.{◌≡◌, ℕ, ◌+◌, ◌*◌, List, [], ◌++◌, take}
use Rattle.winnow_codec.specs.Lists.{SpellsEach}
use Rattle.format_cbor.specs.Items.{SpellsWithin}
use Rattle.format_cbor.proofs.lemmas.EntryReading.{Run}
use Rattle.format_cbor.proofs.item_writing.+writing.Given as goal

-- an item inside has one level less

abbrev pub decreases-write_within : goal.decreases-write_within
decreases-write_within l = 6 * l.depth

abbrev pub decreases-write_item : goal.decreases-write_item
decreases-write_item l = 6 * l.depth + 5

abbrev pub decreases-write_contents : goal.decreases-write_contents
decreases-write_contents l = 6 * l.depth + 4

abbrev pub decreases-write_items : goal.decreases-write_items
decreases-write_items l = 6 * l.depth + 3

abbrev pub decreases-write_entries : goal.decreases-write_entries
decreases-write_entries l = 6 * l.depth + 3

abbrev pub decreases-write_entry : goal.decreases-write_entry
decreases-write_entry l = 6 * l.depth + 2

abbrev pub decreases-write_value : goal.decreases-write_value
decreases-write_value l = 6 * l.depth + 1

-- the items so far are appended
abbrev pub invariant-write_items-loop-item : goal.invariant-write_items-loop-item
invariant-write_items-loop-item l = (spelled : List ℕ)
    × (SpellsEach (SpellsWithin l.longest l.depth) (take l.item-index l.items) spelled × (l.bytes.items ≡ l.initial.bytes.items ++ spelled))

-- the entries so far are appended, and the last key has the last spelling
abbrev pub invariant-write_entries-loop-entry : goal.invariant-write_entries-loop-entry
invariant-write_entries-loop-entry l = (spelled : List ℕ)
    × (Run (SpellsWithin l.longest l.depth) [] (take l.entry-index l.entries) l.last.items spelled × (l.bytes.items ≡ l.initial.bytes.items ++ spelled))
