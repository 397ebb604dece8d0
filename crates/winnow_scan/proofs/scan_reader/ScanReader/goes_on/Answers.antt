use Rattle.winnow_scan.proofs.lemmas.WaitLemmas.{not-true}
use Rattle.winnow_scan.proofs.scan_reader.ScanReader.goes_on.Goals as goal

pub returns-clause-scans : goal.returns-clause-scans
returns-clause-scans g c = λ e. c.look.ensures.scans (not-true c.look.result e)
