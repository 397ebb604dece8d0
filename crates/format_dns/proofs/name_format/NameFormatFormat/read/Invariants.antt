use Rattle.std.proofs.Common.{◌≡◌, ℕ, List, length}
use Rattle.winnow_parser.specs.Answer.{ahead}
use Rattle.winnow_codec.specs.Formats.{Takes}
use Rattle.format_dns.specs.Names.{SpellsLabels}
use Rattle.format_dns.proofs.name_format.NameFormatFormat.read.Given as goal

abbrev pub invariant-loop-k : goal.invariant-loop-k
invariant-loop-k g l = record {
  valid : g.I.Stream.valid l.input;
  kept : g.I.Stream.keeps l.initial.input l.input;
  number : length l.labels.items ≡ l._k;
  read : (bytes : List ℕ) × (SpellsLabels l.labels.items bytes
      × Takes bytes (ahead g.I.Rest.location g.I.Stream.remaining l.initial.input) (ahead g.I.Rest.location g.I.Stream.remaining l.input));
}
