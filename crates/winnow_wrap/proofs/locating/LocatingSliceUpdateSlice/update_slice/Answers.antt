use Rattle.std.proofs.Common.{IsTrue, ap, sym, subst, arith}
use Rattle.winnow_stream.specs.Source.{width}
use Rattle.winnow_stream.specs.Front.{is_offset}
use Rattle.winnow_stream.proofs.lemmas.FrontLemmas.{width-front, width-back}
use Rattle.winnow_wrap.proofs.locating.LocatingSliceUpdateSlice.update_slice.Goals as goal

-- The window is no wider than what remained at its checkpoint.
pub invariant_of-result : goal.invariant_of-result
invariant_of-result g c =
    let stream = g.met.I.Stream in
    let placed = c.inner-placed.result.now in
    let r = g.I.Stream.remained placed.inner in
    let n = c.requires.is_prefix.0 in
    let at = sym c.inner-placed.ensures in
    let offset = subst (λ p. IsTrue (is_offset (g.I.Stream.remained p.inner) n)) at c.requires.is_prefix.1.0 in
    let slice = subst (λ p. g.I.Stream.is_slice c.args.inner (g.I.Stream.remained p.inner) n) at c.requires.is_prefix.1.1 in
    let valid = subst (λ p. g.I.Stream.valid_checkpoint p.inner) at c.requires.valid_checkpoint in
    record {
      fits = omega (arith, ap width (c.update_slice.ensures.remains n offset slice), width-front r n offset, width-back r n offset, stream.rest_width_remaining _ c.update_slice.ensures.valid, stream.rest_width_remained _ valid, placed.fits);
      start_fits = c.args.self.start_fits;
    }
