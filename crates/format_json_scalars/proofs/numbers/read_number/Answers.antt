use Rattle.winnow_parser.specs.Answer.{ahead}
use Rattle.format_json_scalars.proofs.lemmas.NumberAnswerLemmas.{number-answers, number-need, number-longest, number-each}
use Rattle.format_json_scalars.proofs.numbers.read_number.Goals as goal

pub returns-clause-answer : goal.returns-clause-answer
returns-clause-answer g c =
    let stands = ahead g.I.Rest.location g.I.Stream.remaining in
    number-answers g.I.Stream.is_slice g.I.Slice.AsBytes.bytes c.requires.bytes (g.I.StreamIsPartial.expects_more c.args.input.now) (stands c.args.input.now) (stands c.parse_number.new.input) c.parse_number.result (g.met.I.Stream.positive_widths c.args.input.now c.requires.valid) c.parse_number.ensures.means

pub returns-clause-longest : goal.returns-clause-longest
returns-clause-longest g c =
    let stands = ahead g.I.Rest.location g.I.Stream.remaining in
    number-longest g.I.Stream.is_slice g.I.Slice.AsBytes.bytes c.requires.bytes (g.I.StreamIsPartial.expects_more c.args.input.now) (stands c.args.input.now) (stands c.parse_number.new.input) c.parse_number.result (g.met.I.Stream.positive_widths c.args.input.now c.requires.valid) c.parse_number.ensures.means

pub returns-clause-complete : goal.returns-clause-complete
returns-clause-complete g c =
    let stands = ahead g.I.Rest.location g.I.Stream.remaining in
    number-each g.I.Stream.is_slice g.I.Slice.AsBytes.bytes c.requires.bytes (g.I.StreamIsPartial.expects_more c.args.input.now) (stands c.args.input.now) (stands c.parse_number.new.input) c.parse_number.result (g.met.I.Stream.positive_widths c.args.input.now c.requires.valid) c.parse_number.ensures.means

pub returns-clause-need : goal.returns-clause-need
returns-clause-need g c =
    let stands = ahead g.I.Rest.location g.I.Stream.remaining in
    number-need g.I.Stream.is_slice g.I.Slice.AsBytes.bytes c.requires.bytes (g.I.StreamIsPartial.expects_more c.args.input.now) (stands c.args.input.now) (stands c.parse_number.new.input) c.parse_number.result c.parse_number.ensures.means
