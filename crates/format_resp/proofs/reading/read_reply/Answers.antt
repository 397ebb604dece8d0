use Rattle.winnow_parser.specs.Answer.{ahead}
use Rattle.format_resp.proofs.lemmas.AnswerLemmas.{answers, gives-each}
use Rattle.format_resp.proofs.reading.read_reply.Goals as goal

pub returns-clause-answer : goal.returns-clause-answer
returns-clause-answer g c =
    let stands = ahead g.I.Rest.location g.I.Stream.remaining in
    answers g.I.Stream.counts_shortage g.I.Stream.is_slice g.met.I.Stream.slices_stay g.I.Slice.AsBytes.bytes c.requires.bytes c.args.limits.longest c.args.limits.depth (g.I.StreamIsPartial.expects_more c.args.input.now) (stands c.args.input.now) (stands c.parse_next.new.input) c.parse_next.result (g.met.I.Stream.positive_widths c.args.input.now c.requires.valid) c.parse_next.ensures.means

pub returns-clause-complete : goal.returns-clause-complete
returns-clause-complete g c =
    let stands = ahead g.I.Rest.location g.I.Stream.remaining in
    gives-each g.I.Stream.counts_shortage g.I.Stream.is_slice g.met.I.Stream.slices_stay g.I.Slice.AsBytes.bytes c.requires.bytes c.args.limits.longest c.args.limits.depth (g.I.StreamIsPartial.expects_more c.args.input.now) (stands c.args.input.now) (stands c.parse_next.new.input) c.parse_next.result (g.met.I.Stream.positive_widths c.args.input.now c.requires.valid) c.parse_next.ensures.means
