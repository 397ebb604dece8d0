use Rattle.winnow_reader_limit.proofs.lemmas.BoundLemmas.{WaitsWithin-scan}
use Rattle.winnow_reader_limit.proofs.laws.scan_limit_law.Goals as goal

pub returns : goal.returns
returns g c = λ old new result bounded next early.
    WaitsWithin-scan g.R.Record.means g.R.Scan.scanned old new bounded result next early
