use Rattle.winnow_views.proofs.lemmas.BitLemmas.{is_offset-whole}
use Rattle.winnow_views.proofs.bits.BitsStream.peek_slice.Goals as goal

pub peek_slice-requires-clause-offset : goal.peek_slice-requires-clause-offset
peek_slice-requires-clause-offset g c = is_offset-whole _ _ _ _ c.requires.valid.1 c.requires.offset c.whole_and_rest-whole.ensures.whole
