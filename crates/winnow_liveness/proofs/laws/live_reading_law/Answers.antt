use Rattle.winnow_liveness.proofs.lemmas.ReaderLemmas.{lacks-quiet}
use Rattle.winnow_liveness.proofs.laws.live_reading_law.Goals as goal

pub returns : goal.returns
returns g c old new input values live read waits = lacks-quiet g.R.Record.means old live (waits.1 input values read)
