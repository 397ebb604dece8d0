use Rattle.winnow_parser.specs.Answer.{ahead, failed}
use Rattle.format_cbor.proofs.lemmas.HeadReading.{head-given, head-other, head-unread}
use Rattle.format_cbor.proofs.head_format.HeadFormatFormat.read.Goals as goal

pub returns-in-Some-clause-means : goal.returns-in-Some-clause-means
returns-in-Some-clause-means g c =
    let stands = ahead g.I.Rest.location g.I.Stream.remaining in
    head-given c.in-Ok.first c.in-Ok.argument c.in-Some.head c.in-Some.ensures (g.I.StreamIsPartial.expects_more c.args.input.now)
    (stands c.args.input.now) (stands c.read.new.input) c.in-Ok.ensures.means

pub returns-in-None-clause-means : goal.returns-in-None-clause-means
returns-in-None-clause-means g c =
    let stands = ahead g.I.Rest.location g.I.Stream.remaining in
    head-other c.in-Ok.first c.in-Ok.argument c.in-None.ensures (g.I.StreamIsPartial.expects_more c.args.input.now)
    (stands c.args.input.now) (stands c.read.new.input) c.in-Ok.ensures.means

pub returns-in-Err-clause-means : goal.returns-in-Err-clause-means
returns-in-Err-clause-means g c =
    let stands = ahead g.I.Rest.location g.I.Stream.remaining in
    head-unread (g.I.StreamIsPartial.expects_more c.args.input.now) (stands c.args.input.now)
    (failed c.in-Err.failure (stands c.read.new.input)) c.in-Err.ensures.means
