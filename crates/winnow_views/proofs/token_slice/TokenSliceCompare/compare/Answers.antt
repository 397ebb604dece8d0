use Rattle.std.specs.Mem.{type_size}
use Rattle.winnow_stream_window.specs.Contents.{slice_of}
use Rattle.winnow_views.proofs.lemmas.TokenLemmas.{is_offset-first}
use Rattle.winnow_views.proofs.token_slice.TokenSliceCompare.compare.Goals as goal

pub returns-then-eq-clause-offset : goal.returns-then-eq-clause-offset
returns-then-eq-clause-offset g c = let rest = slice_of g.row.T c.args.self.now.view.window in is_offset-first (type_size g.row.T) rest.ref_ptr rest.now c.in-Some.token c.in-Some.ensures
