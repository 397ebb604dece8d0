use Rattle.winnow_stream.proofs.lemmas.OffsetLemmas.{FindsFirst-first_offset}
use Rattle.winnow_stream.proofs.laws.first_law.Goals as goal

pub returns : goal.returns
returns g c = λ holds r. FindsFirst-first_offset holds r
