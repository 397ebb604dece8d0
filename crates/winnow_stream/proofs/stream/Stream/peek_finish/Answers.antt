use Rattle.winnow_stream.proofs.lemmas.FrontLemmas.{is_offset-whole}
use Rattle.winnow_stream.proofs.stream.Stream.peek_finish.Goals as goal

pub peek_slice-requires-clause-offset : goal.peek_slice-requires-clause-offset
peek_slice-requires-clause-offset g c = rw c.eof_offset.ensures (is_offset-whole _ (g.met.Self.Stream.positive_widths _ c.requires))
