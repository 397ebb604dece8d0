use Rattle.winnow_scan.proofs.lemmas.WaitLemmas.{lacks-awaiting}
use Rattle.winnow_scan.proofs.laws.scan_law.Goals as goal

pub returns : goal.returns
returns g c = λ f answer awaits h. lacks-awaiting g.R.Record.means f answer awaits h
