use Rattle.format_csv.proofs.lemmas.RowReaderLemmas.{not-true}
use Rattle.format_csv.proofs.row_reader.RowReader.goes_on.Goals as goal

pub returns-clause-scans : goal.returns-clause-scans
returns-clause-scans c = λ e. c.look.ensures.scans (not-true c.look.result e)
