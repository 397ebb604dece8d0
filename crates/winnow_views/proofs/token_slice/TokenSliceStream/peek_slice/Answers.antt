use Rattle.std.proofs.Common.{sym, length-take-le}
use Rattle.std.specs.Mem.{type_size}
use Rattle.winnow_stream_window.specs.Contents.{slice_of}
use Rattle.winnow_views.proofs.lemmas.TokenLemmas.{le-from_offset}
use Rattle.winnow_views.proofs.token_slice.TokenSliceStream.peek_slice.Goals as goal

pub slice_bounds-result-end : goal.slice_bounds-result-end
slice_bounds-result-end g c =
    let rest = slice_of g.row.T c.args.self.now.view.window in
    let inside = le-from_offset (type_size g.row.T) rest.ref_ptr rest.now c.args.offset c.requires.offset in
    sym (length-take-le c.args.offset c.slice-rest.result.now (rw c.slice-rest.ensures.contents inside))
