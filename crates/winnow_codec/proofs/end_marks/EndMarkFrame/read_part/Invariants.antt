use Rattle.std.proofs.Common.{length}
use Rattle.winnow_parser.specs.Answer.{ahead}
use Rattle.winnow_codec.specs.Formats.{Takes}
use Rattle.winnow_codec.specs.EndMarks.{EndsOnly}
use Rattle.winnow_codec.proofs.end_marks.EndMarkFrame.read_part.Given as goal

abbrev pub invariant-loop-alloc : goal.invariant-loop-alloc
invariant-loop-alloc g l = record {
  valid : g.I.Stream.valid l.input;
  kept : g.I.Stream.keeps l.fn.input l.input;
  taken : Takes l.part.items (ahead g.I.Rest.location g.I.Stream.remaining l.fn.input)
      (ahead g.I.Rest.location g.I.Stream.remaining l.input);
  only : EndsOnly l.self.mark.now l.part.items;
}

abbrev pub decreases-loop-alloc : goal.decreases-loop-alloc
decreases-loop-alloc g l = length (g.I.Stream.remaining l.input)
