use Rattle.std.proofs.Common.{take}
use Rattle.winnow_parser.specs.Answer.{ahead}
use Rattle.winnow_codec.specs.Formats.{Takes}
use Rattle.winnow_codec.proofs.literals.LiteralBytesFormat.read.Given as goal

abbrev pub invariant-loop-place : goal.invariant-loop-place
invariant-loop-place g l = record {
  valid : g.I.Stream.valid l.input;
  kept : g.I.Stream.keeps l.fn.input l.input;
  taken : Takes (take l.place l.self.bytes.now)
      (ahead g.I.Rest.location g.I.Stream.remaining l.fn.input)
      (ahead g.I.Rest.location g.I.Stream.remaining l.input);
}
