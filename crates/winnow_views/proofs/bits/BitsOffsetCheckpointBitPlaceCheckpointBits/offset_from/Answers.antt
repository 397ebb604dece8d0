use Rattle.std.proofs.Common.{arith, ap}
use Rattle.winnow_stream.specs.Checkpoint.{checkpoint_inner}
use Rattle.winnow_views.specs.BitLaws.{rest_width-bits_from}
use Rattle.winnow_views.proofs.bits.BitsOffsetCheckpointBitPlaceCheckpointBits.offset_from.Goals as goal

pub overflow_sub-result : goal.overflow_sub-result
overflow_sub-result g c =
    let at = checkpoint_inner c.args.start.now in
    let here = rest_width-bits_from _ c.args.self.now.place _ c.requires.measured.0.1.units (g.met.I.Stream.rest_width_remaining c.args.self.now.input c.requires.measured.0.0) in
    let there = rest_width-bits_from _ at.place _ c.requires.measured.1.1.units (g.met.I.Stream.rest_width_remained at.bytes c.requires.measured.1.0) in
    omega (arith, here, there, c.requires.no_wider, c.requires.measured.1.2, c.eof_offset.ensures, ap (λ p. p.count) c.inner.ensures)

pub returns : goal.returns
returns g c =
    let at = checkpoint_inner c.args.start.now in
    let here = rest_width-bits_from _ c.args.self.now.place _ c.requires.measured.0.1.units (g.met.I.Stream.rest_width_remaining c.args.self.now.input c.requires.measured.0.0) in
    let there = rest_width-bits_from _ at.place _ c.requires.measured.1.1.units (g.met.I.Stream.rest_width_remained at.bytes c.requires.measured.1.0) in
    omega (arith, here, there, c.requires.measured.1.2, c.eof_offset.ensures, ap (λ p. p.count) c.inner.ensures)
