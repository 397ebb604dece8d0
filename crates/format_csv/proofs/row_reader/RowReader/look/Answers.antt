use Rattle.std.proofs.Common.{take}
use Rattle.format_csv.proofs.lemmas.RowReaderLemmas.{seen, scans-on}
use Rattle.format_csv.proofs.row_reader.RowReader.look.Goals as goal

pub returns-clause-scans : goal.returns-clause-scans
returns-clause-scans c = λ e.
    let r = c.self.inside in
    let before = take r.scanned r.reader.ahead in
    scans-on c.args.self.now r.reader c.scan.new.state c.self.view_is c.requires
    (seen r.reader.ahead c.ahead-ahead.result.now r.scanned c.scan.new.state c.ahead-ahead.ensures (c.if-scan.ensures before c.self.invariant.1).0)
