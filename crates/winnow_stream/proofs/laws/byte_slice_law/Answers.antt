use Rattle.winnow_stream.proofs.lemmas.UnitLemmas.{length-front_units}
use Rattle.winnow_stream.proofs.laws.byte_slice_law.Goals as goal

pub returns : goal.returns
returns c = λ s r n o e. (tt, length-front_units s.now r n o e)
