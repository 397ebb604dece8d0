use Rattle.std.proofs.Common.{sym, length-take-le}
use Rattle.winnow_stream.proofs.lemmas.UnitLemmas.{le-from_is_offset}
use Rattle.winnow_stream.proofs.slices.RefSliceStream.peek_slice.Goals as goal

pub slice_bounds-result-end : goal.slice_bounds-result-end
slice_bounds-result-end g c =
    sym (length-take-le c.args.offset c.args.self.now.now (le-from_is_offset c.args.self.now.now c.args.offset c.requires.offset))
