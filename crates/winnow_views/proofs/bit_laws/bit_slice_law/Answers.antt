use Rattle.winnow_views.proofs.lemmas.BitLemmas.{bits-have-widths}
use Rattle.winnow_views.proofs.bit_laws.bit_slice_law.Goals as goal

pub returns : goal.returns
returns g c = λ known. bits-have-widths g.I.Stream.is_slice g.I.Slice.SliceLen.has_width g.I.Slice.SliceLen.width_of known
