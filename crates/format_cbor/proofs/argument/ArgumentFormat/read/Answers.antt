use Rattle.std.proofs.Common.{arith}
use Rattle.winnow_parser.specs.Answer.{ahead, failed}
use Rattle.winnow_parser.specs.Outcome.{Fails}
use Rattle.format_cbor.proofs.lemmas.HeadReading.{held-given, following-read, missing-unread}
use Rattle.format_cbor.proofs.argument.ArgumentFormat.read.Goals as goal

pub returns-in-Held-clause-means : goal.returns-in-Held-clause-means
returns-in-Held-clause-means g c =
    held-given c.args.self.now (g.I.StreamIsPartial.expects_more c.args.input.now)
    (ahead g.I.Rest.location g.I.Stream.remaining c.args.input.now) c.from.result c.in-Held.number c.in-Held.is (omega (arith, c.from.ensures))

pub returns-in-Missing-clause-means : goal.returns-in-Missing-clause-means
returns-in-Missing-clause-means g c =
    missing-unread c.args.self.now (g.I.StreamIsPartial.expects_more c.args.input.now)
    (ahead g.I.Rest.location g.I.Stream.remaining c.args.input.now) c.in-Missing.is

pub returns-in-Err-clause-means : goal.returns-in-Err-clause-means
returns-in-Err-clause-means g c =
    let stands = ahead g.I.Rest.location g.I.Stream.remaining in
    following-read c.args.self.now (g.I.StreamIsPartial.expects_more c.args.input.now) (stands c.args.input.now) c.in-Following.width
    (Fails (failed c.in-Err.failure (stands c.read_following.new.input))) c.in-Following.is c.in-Err.ensures.means
