use Rattle.std.proofs.Common.{arith}
use Rattle.winnow_parser.specs.Answer.{ahead, failed}
use Rattle.winnow_codec.specs.WholeFormats.{SpellsSome}
use Rattle.winnow_codec.proofs.lemmas.Reading.{fewer-unread}
use Rattle.winnow_codec.proofs.lemmas.Wholes.{some-given, none-given}
use Rattle.winnow_codec.proofs.some_bytes.SomeBytesFormat.read.Goals as goal

pub returns-then-eof_offset-before-clause-means : goal.returns-then-eof_offset-before-clause-means
returns-then-eof_offset-before-clause-means g c =
    let stands = ahead g.I.Rest.location g.I.Stream.remaining in
    some-given g.F.Format.same (g.F.Format.spells c.args.self.now.inner) (g.met.F.Format.lawful c.args.self.now.inner).prefix_free (g.I.StreamIsPartial.expects_more c.args.input.now)
    (stands c.args.input.now) (stands c.read.new.input) c.in-Ok.value c.in-Ok.ensures.means
    (omega (arith, c.if-eof_offset-before.true, c.eof_offset.ensures, c.eof_offset-before.ensures))

pub returns-else-eof_offset-before-clause-means : goal.returns-else-eof_offset-before-clause-means
returns-else-eof_offset-before-clause-means g c =
    let stands = ahead g.I.Rest.location g.I.Stream.remaining in
    none-given g.F.Format.same (g.F.Format.spells c.args.self.now.inner) (g.met.F.Format.lawful c.args.self.now.inner).prefix_free (g.I.StreamIsPartial.expects_more c.args.input.now)
    (stands c.args.input.now) (stands c.read.new.input) c.in-Ok.value (g.met.I.Stream.positive_widths c.args.input.now c.requires) c.in-Ok.ensures.means
    (omega (arith, c.if-eof_offset-before.false, c.eof_offset.ensures, c.eof_offset-before.ensures))

pub returns-in-Err-clause-means : goal.returns-in-Err-clause-means
returns-in-Err-clause-means g c =
    fewer-unread (g.F.Format.spells c.args.self.now.inner) (SpellsSome (g.F.Format.spells c.args.self.now.inner)) (λ w. w) (λ w bytes s. s.0)
    (g.I.StreamIsPartial.expects_more c.args.input.now) _ (failed c.in-Err.failure (ahead g.I.Rest.location g.I.Stream.remaining c.read.new.input)) c.in-Err.ensures.means
