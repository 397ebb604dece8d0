use Rattle.std.proofs.Common.{◌≡◌, ℕ, ◌+◌, ◌*◌, List, [], length}
use Rattle.winnow_parser.specs.Answer.{ahead}
use Rattle.winnow_codec.specs.Formats.{Takes}
use Rattle.winnow_codec.specs.Lists.{SpellsEach}
use Rattle.format_cbor.specs.Items.{SpellsWithin}
use Rattle.format_cbor.proofs.lemmas.EntryReading.{Run}
use Rattle.format_cbor.proofs.item_reading.+reading.Given as goal

-- an item inside has one level less

abbrev pub decreases-read_within : goal.decreases-read_within
decreases-read_within g l = 6 * l.depth

abbrev pub decreases-read_item : goal.decreases-read_item
decreases-read_item g l = 6 * l.depth + 5

abbrev pub decreases-read_contents : goal.decreases-read_contents
decreases-read_contents g l = 6 * l.depth + 4

abbrev pub decreases-read_items : goal.decreases-read_items
decreases-read_items g l = 6 * l.depth + 3

abbrev pub decreases-read_entries : goal.decreases-read_entries
decreases-read_entries g l = 6 * l.depth + 3

abbrev pub decreases-read_entry : goal.decreases-read_entry
decreases-read_entry g l = 6 * l.depth + 2

abbrev pub decreases-read_key : goal.decreases-read_key
decreases-read_key g l = 6 * l.depth + 1

-- the items so far are read
abbrev pub invariant-read_items-loop-k : goal.invariant-read_items-loop-k
invariant-read_items-loop-k g l = record {
  valid : g.I.Stream.valid l.input;
  kept : g.I.Stream.keeps l.initial.input l.input;
  number : length l.items.items ≡ l._k;
  read : (bytes : List ℕ) × (SpellsEach (SpellsWithin l.longest l.depth) l.items.items bytes
      × Takes bytes (ahead g.I.Rest.location g.I.Stream.remaining l.initial.input)
      (ahead g.I.Rest.location g.I.Stream.remaining l.input));
}

-- the entries so far are read, and the last key has the last spelling
abbrev pub invariant-read_entries-loop-k : goal.invariant-read_entries-loop-k
invariant-read_entries-loop-k g l = record {
  valid : g.I.Stream.valid l.input;
  kept : g.I.Stream.keeps l.initial.input l.input;
  number : length l.entries.items ≡ l._k;
  read : (bytes : List ℕ)
      × (Run (SpellsWithin l.longest l.depth) [] l.entries.items l.last.items bytes
      × Takes bytes (ahead g.I.Rest.location g.I.Stream.remaining l.initial.input)
      (ahead g.I.Rest.location g.I.Stream.remaining l.input));
}
