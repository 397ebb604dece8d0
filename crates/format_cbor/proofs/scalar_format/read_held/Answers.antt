use Rattle.winnow_parser.specs.Answer.{ahead, failed}
use Rattle.format_cbor.proofs.lemmas.ScalarReading.{held-given, held-unread}
use Rattle.format_cbor.proofs.scalar_format.read_held.Goals as goal

pub returns-in-Ok-clause-means : goal.returns-in-Ok-clause-means
returns-in-Ok-clause-means g c =
    let stands = ahead g.I.Rest.location g.I.Stream.remaining in
    held-given c.args.longest c.args.label (g.I.StreamIsPartial.expects_more c.args.input.now) (stands c.args.input.now)
    (stands c.read_part.new.input) c.in-Ok.held c.requires.kind c.in-Ok.ensures.means

pub returns-in-Err-clause-means : goal.returns-in-Err-clause-means
returns-in-Err-clause-means g c =
    let stands = ahead g.I.Rest.location g.I.Stream.remaining in
    held-unread c.args.longest c.args.label (g.I.StreamIsPartial.expects_more c.args.input.now) (stands c.args.input.now)
    (failed c.in-Err.failure (stands c.read_part.new.input)) c.requires.kind c.in-Err.ensures.means
