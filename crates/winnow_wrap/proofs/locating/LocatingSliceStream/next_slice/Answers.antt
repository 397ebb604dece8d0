use Rattle.std.proofs.Common.{ap, arith}
use Rattle.winnow_stream.specs.Source.{width}
use Rattle.winnow_stream.proofs.lemmas.FrontLemmas.{width-back}
use Rattle.winnow_wrap.proofs.locating.LocatingSliceStream.next_slice.Goals as goal

-- The slice is no wider than what remained.
pub overflow_add-self : goal.overflow_add-self
overflow_add-self g c =
    let r = g.I.Stream.remaining c.args.self.now.input in
    omega (arith, width-back r c.args.offset c.requires.offset, g.met.I.Stream.rest_width_remaining _ c.requires.valid.0, c.args.self.now.fits)

-- What remained was as wide as the slice and what remains now.
pub invariant_of-self : goal.invariant_of-self
invariant_of-self g c =
    let stream = g.met.I.Stream in
    let r = g.I.Stream.remaining c.args.self.now.input in
    record {
      fits = omega (arith, ap width c.next_slice-slice.ensures.remains, width-back r c.args.offset c.requires.offset, stream.rest_width_remaining _ c.requires.valid.0, stream.rest_width_remaining _ c.next_slice-slice.ensures.valid, c.args.self.now.fits);
      start_fits = c.args.self.now.start_fits;
    }
