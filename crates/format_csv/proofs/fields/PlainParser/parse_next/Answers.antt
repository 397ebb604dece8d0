use Rattle.winnow_parser.specs.Answer.{ahead, failed}
use Rattle.format_csv.proofs.lemmas.GatheringLemmas.{plain-failed}
use Rattle.format_csv.proofs.fields.PlainParser.parse_next.Goals as goal

pub returns-clause-means : goal.returns-clause-means
returns-clause-means g c =
    let stands = ahead g.I.Rest.location g.I.Stream.remaining in
    plain-failed g.I.Stream.is_slice g.I.Slice.AsBytes.bytes (g.I.StreamIsPartial.expects_more c.args.input.now) (stands c.args.input.now) (failed c.in-Err.failure (stands c.parse_next.new.input))
    (rw (c.take_till-text.ensures.set, c.take_till-text.ensures.counts.0, c.take_till-text.ensures.counts.1) at c.in-Err.ensures.means)
