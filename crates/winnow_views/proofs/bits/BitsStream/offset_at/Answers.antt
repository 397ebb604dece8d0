use Rattle.std.proofs.Common.{arith}
use Rattle.winnow_views.proofs.lemmas.BitLemmas.{offset_at-bits_short}
use Rattle.winnow_views.proofs.bits.BitsStream.offset_at.Goals as goal

pub returns-in-Some : goal.returns-in-Some
returns-in-Some g c =
    offset_at-bits_short (g.I.Stream.remaining c.args.self.now.input) c.args.self.now.place c.args.tokens c.in-Some.missing
    (omega (arith, c.in-Some.ensures, c.eof_offset.ensures))
