use Rattle.winnow_reader.proofs.lemmas.WaitLemmas.{WaitsForNeeded-wanted}
use Rattle.winnow_reader.proofs.laws.waiting_law.Goals as goal

pub returns : goal.returns
returns g c = λ old new later piece next. WaitsForNeeded-wanted g.R.Record.means old new later piece next
