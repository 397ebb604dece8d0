use Rattle.std.proofs.Common.{arith}
use Rattle.std.specs.Mem.{type_size}
use Rattle.winnow_stream_window.specs.Contents.{slice_of}
use Rattle.winnow_views.proofs.lemmas.TokenLemmas.{offset_at-short}
use Rattle.winnow_views.proofs.token_slice.TokenSliceStream.offset_at.Goals as goal

pub returns-in-Some : goal.returns-in-Some
returns-in-Some g c =
    let rest = slice_of g.row.T c.args.self.now.view.window in
    offset_at-short (type_size g.row.T) rest.ref_ptr rest.now c.args.tokens c.in-Some.missing (omega (arith, c.in-Some.ensures))
