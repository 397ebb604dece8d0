use Rattle.winnow_parser.specs.Answer.{ahead}
use Rattle.format_cbor.proofs.lemmas.ScalarReading.{plain-given, plain-none}
use Rattle.format_cbor.proofs.scalar_format.read_body.Goals as goal

pub returns-in-Some-clause-means : goal.returns-in-Some-clause-means
returns-in-Some-clause-means g c =
    let is = c.in-Some.ensures in
    plain-given c.args.longest c.args.label (g.I.StreamIsPartial.expects_more c.args.input.now)
    (ahead g.I.Rest.location g.I.Stream.remaining c.args.input.now) c.in-Some.scalar is.0 (is.1 c.args.longest) is.2

pub returns-in-None-clause-means : goal.returns-in-None-clause-means
returns-in-None-clause-means g c =
    plain-none c.args.longest c.args.label (g.I.StreamIsPartial.expects_more c.args.input.now)
    (ahead g.I.Rest.location g.I.Stream.remaining c.args.input.now) (c.in-None.ensures c.args.longest) c.in_default.not-Bytes c.in_default.not-Text
