use Rattle.std.proofs.Common.{length, ap, arith}
use Rattle.winnow_stream.specs.Checkpoint.{checkpoint_inner}
use Rattle.winnow_stream_window.specs.Contents.{slice_of}
use Rattle.winnow_views.specs.TokenPlaces.{rest_in}
use Rattle.winnow_views.proofs.lemmas.TokenLemmas.{le-from_end}
use Rattle.winnow_views.proofs.token_slice.TokenSliceStream.offset_since.Goals as goal

pub overflow_sub-result : goal.overflow_sub-result
overflow_sub-result g c =
    let rest = slice_of g.row.T c.args.self.now.view.window in
    let whole = slice_of g.row.T (checkpoint_inner c.args.start.now).window in
    let shorter = le-from_end g.row.T rest whole c.requires.is_end in
    let same = ap (λ v. length (rest_in v)) c.inner.ensures in
    omega (arith, shorter, same, c.len.ensures, c.len-2.ensures)
