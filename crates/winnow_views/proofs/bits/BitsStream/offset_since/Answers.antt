use Rattle.std.proofs.Common.{arith, ap}
use Rattle.winnow_stream.proofs.lemmas.FrontLemmas.{width-end}
use Rattle.winnow_views.proofs.bits.BitsStream.offset_since.Goals as goal

pub overflow_sub-result : goal.overflow_sub-result
overflow_sub-result g c = omega (arith, width-end _ _ c.requires.is_end, c.requires.valid_checkpoint.2, c.eof_offset.ensures, ap (λ p. p.count) c.inner.ensures)
