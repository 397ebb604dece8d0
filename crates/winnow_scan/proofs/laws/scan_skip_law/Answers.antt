use Rattle.winnow_scan.proofs.lemmas.SinceLemmas.{ReadsOnSince-scan}
use Rattle.winnow_scan.proofs.laws.scan_skip_law.Goals as goal

pub returns : goal.returns
returns g c = λ place old new result next early.
    ReadsOnSince-scan g.R.Record.means g.R.Scan.scanned place old new (g.met.R.Record.lawful old.parser) result next early
