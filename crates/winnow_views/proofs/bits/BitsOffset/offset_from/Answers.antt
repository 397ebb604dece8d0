use Rattle.std.proofs.Common.{arith}
use Rattle.winnow_views.specs.BitLaws.{rest_width-bits_from}
use Rattle.winnow_views.proofs.bits.BitsOffset.offset_from.Goals as goal

pub overflow_sub-result : goal.overflow_sub-result
overflow_sub-result g c =
    let law = g.met.I.Stream.rest_width_remaining in
    let here = rest_width-bits_from _ c.args.self.now.place _ c.requires.measured.0.1.units (law c.args.self.now.input c.requires.measured.0.0) in
    let there = rest_width-bits_from _ c.args.start.now.place _ c.requires.measured.1.1.units (law c.args.start.now.input c.requires.measured.1.0) in
    omega (arith, here, there, c.requires.no_wider, c.eof_offset.ensures, c.eof_offset-2.ensures)

pub returns : goal.returns
returns g c =
    let law = g.met.I.Stream.rest_width_remaining in
    let here = rest_width-bits_from _ c.args.self.now.place _ c.requires.measured.0.1.units (law c.args.self.now.input c.requires.measured.0.0) in
    let there = rest_width-bits_from _ c.args.start.now.place _ c.requires.measured.1.1.units (law c.args.start.now.input c.requires.measured.1.0) in
    omega (arith, here, there, c.eof_offset.ensures, c.eof_offset-2.ensures)
