use Rattle.std.proofs.Common.{List, true}
use Rattle.winnow_stream.specs.Source.{width}
use Rattle.winnow_parser.specs.Outcome.{Ahead, Moves}
use Rattle.winnow_parser.specs.Answer.{ahead}
use Rattle.winnow_resume.specs.Chain.{Chain}
use Rattle.winnow_resume.specs.Skipping.{Skips}
use Rattle.winnow_resume.specs.Recording.{RecordsOne}
use Rattle.winnow_resume.proofs.parsers.retry_after.RetryAfterParser.parse_next.Given as goal

-- from the start of the call up to here some failures were skipped, and each was recorded
abbrev pub invariant-loop-value : goal.invariant-loop-value
invariant-loop-value g l =
    let stands = ahead g.I.Rest.location g.I.Stream.remaining in
    let stood = ahead g.I.Checkpoint.Rest.location g.I.Stream.remained in
    let means = g.P.Parser.means l.self.parser in
    let recover = g.R.Parser.means l.self.recover in
    let partial = g.I.StreamIsPartial.expects_more l.fn.input in
    (afters : List g.row.I.Denot) × ((places : List (Ahead g.row.I-Token.Denot)) × record {
      valid : g.I.Stream.valid l.input;
      kept : g.I.Stream.keeps l.fn.input l.input;
      onward : Moves (stands l.fn.input) (stands l.input);
      told : Chain (RecordsOne stands stood g.I.Stream.keeps g.I.Recover.records means
          (g.P.Parser.errors l.self.parser) recover partial) afters l.fn.input l.input;
      skipped : Chain (Skips true g.I.Recover.supports_recovery means recover partial) places
          (stands l.fn.input) (stands l.input);
    })

-- each failure that is skipped leaves a narrower rest
abbrev pub decreases-loop-value : goal.decreases-loop-value
decreases-loop-value g l = width (g.I.Stream.remaining l.input)
