use Rattle.std.proofs.Common.{◌≡◌, ◌+◌, length}
use Rattle.winnow_parser.specs.Answer.{ahead}
use Rattle.winnow_codec.specs.Formats.{Takes}
use Rattle.winnow_codec.proofs.bytes.next_bytes.Given as goal

abbrev pub invariant-loop-k : goal.invariant-loop-k
invariant-loop-k g l = record {
  valid : g.I.Stream.valid l.input;
  kept : g.I.Stream.keeps l.initial.input l.input;
  number : length l.bytes.items ≡ l._k;
  left : l._k + length (g.I.Stream.remaining l.input) ≡ length
      (g.I.Stream.remaining l.initial.input);
  taken : Takes l.bytes.items (ahead g.I.Rest.location g.I.Stream.remaining l.initial.input)
      (ahead g.I.Rest.location g.I.Stream.remaining l.input);
}
