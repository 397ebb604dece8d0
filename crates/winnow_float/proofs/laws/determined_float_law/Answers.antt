use Rattle.winnow_float.proofs.lemmas.AgreeingLemmas.{determined-float}
use Rattle.winnow_float.proofs.laws.determined_float_law.Goals as goal

pub returns : goal.returns
returns g c = λ view fronts alike.
    determined-float g.R.RawFloat.format g.R.RawFloat.value g.I.Slice.AsBStr.text_bytes view alike g.I.Stream.is_slice fronts g.I.Token.AsChar.code
