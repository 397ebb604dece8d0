use Rattle.std.proofs.Common.{replicate}
use Rattle.winnow_parser.specs.Answer.{ahead}
use Rattle.winnow_codec.specs.Formats.{Takes}
use Rattle.winnow_codec.proofs.literals.ZeroBytesFormat.read.Given as goal

abbrev pub invariant-loop-place : goal.invariant-loop-place
invariant-loop-place g l = record {
  valid : g.I.Stream.valid l.input;
  kept : g.I.Stream.keeps l.fn.input l.input;
  taken : Takes (replicate l._place 0) (ahead g.I.Rest.location g.I.Stream.remaining l.fn.input)
      (ahead g.I.Rest.location g.I.Stream.remaining l.input);
}
