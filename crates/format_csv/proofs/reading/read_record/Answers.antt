use Rattle.winnow_parser.specs.Answer.{ahead}
use Rattle.format_csv.proofs.lemmas.AnswerLemmas.{answers, gives-each}
use Rattle.format_csv.proofs.reading.read_record.Goals as goal

pub returns-clause-answer : goal.returns-clause-answer
returns-clause-answer g c =
    let stands = ahead g.I.Rest.location g.I.Stream.remaining in
    answers g.I.Stream.is_slice g.I.Slice.AsBytes.bytes g.met.I.Stream.slices_stay c.requires.bytes g.E.ParserError.append_refusable g.E.ParserError.or_refusable (g.I.StreamIsPartial.expects_more c.args.input.now) (stands c.args.input.now) (stands c.parse_next.new.input) c.parse_next.result (g.met.I.Stream.positive_widths c.args.input.now c.requires.valid) c.parse_next.ensures.means

pub returns-clause-complete : goal.returns-clause-complete
returns-clause-complete g c =
    let stands = ahead g.I.Rest.location g.I.Stream.remaining in
    gives-each g.I.Stream.is_slice g.I.Slice.AsBytes.bytes g.met.I.Stream.slices_stay c.requires.bytes g.E.ParserError.append_refusable g.E.ParserError.or_refusable (g.I.StreamIsPartial.expects_more c.args.input.now) (stands c.args.input.now) (stands c.parse_next.new.input) c.parse_next.result (g.met.I.Stream.positive_widths c.args.input.now c.requires.valid) c.parse_next.ensures.means
