use Rattle.std.proofs.Common.{◌≡◌, ℕ, ◌+◌, ◌*◌, List, length}
use Rattle.winnow_parser.specs.Answer.{ahead}
use Rattle.winnow_codec.specs.Formats.{Takes}
use Rattle.winnow_codec.specs.Lists.{SpellsEach}
use Rattle.winnow_codec_nested.specs.Layered.{SpellsNested}
use Rattle.winnow_codec_nested.proofs.reading.+reading.Given as goal

abbrev pub decreases-read_inners : goal.decreases-read_inners
decreases-read_inners g l = 2 * l.depth + 1

abbrev pub decreases-read_value : goal.decreases-read_value
decreases-read_value g l = 2 * l.depth

abbrev pub invariant-read_inners-loop-k : goal.invariant-read_inners-loop-k
invariant-read_inners-loop-k g l = record {
  valid : g.I.Stream.valid l.input;
  kept : g.I.Stream.keeps l.initial.input l.input;
  number : length l.values.items ≡ l._k;
  read : (bytes : List ℕ)
      × (SpellsEach (SpellsNested (g.H.Format.spells l.heads) g.L.Layered.head_of g.L.Layered.held g.L.Layered.count_after l.depth) l.values.items bytes
      × Takes bytes (ahead g.I.Rest.location g.I.Stream.remaining l.initial.input) (ahead g.I.Rest.location g.I.Stream.remaining l.input));
}
