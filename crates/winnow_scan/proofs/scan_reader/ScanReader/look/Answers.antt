use Rattle.std.proofs.Common.{[], take, length, ap, sym, subst, arith}
use Rattle.winnow_scan.proofs.lemmas.ScannedLemmas.{seen-both, seen-all, scans-same}
use Rattle.winnow_scan.proofs.scan_reader.ScanReader.look.Goals as goal

pub invariant_of-self : goal.invariant_of-self
invariant_of-self g c =
    (omega arith, subst (λ p. g.R.Scan.scanned p [] c.start.result) c.parser-parser.ensures c.start.ensures)

pub invariant_of-self-2 : goal.invariant_of-self-2
invariant_of-self-2 g c =
    let r = c.self.inside in
    let before = take r.scanned r.reader.ahead in
    let was = subst (λ p. g.R.Scan.scanned p before r.state) (sym c.parser-parser.ensures) c.self.invariant.1 in
    let seen = seen-both g.R.Record.means g.R.Scan.scanned c.parser-parser.result.now r.reader.parser r.reader.ahead c.ahead-ahead.result.now r.scanned c.scan.new.state c.parser-parser.ensures c.ahead-ahead.ensures (c.if-scan.ensures before was) in (
      omega (arith, ap length c.ahead-ahead.ensures),
      seen-all g.R.Record.means g.R.Scan.scanned r.reader.parser r.reader.ahead c.ahead-ahead.result.now c.scan.new.state c.ahead-ahead.ensures seen.0,
    )

pub returns-clause-scans : goal.returns-clause-scans
returns-clause-scans g c = λ e.
    let r = c.self.inside in
    let before = take r.scanned r.reader.ahead in
    let was = subst (λ p. g.R.Scan.scanned p before r.state) (sym c.parser-parser.ensures) c.self.invariant.1 in
    let seen = seen-both g.R.Record.means g.R.Scan.scanned c.parser-parser.result.now r.reader.parser r.reader.ahead c.ahead-ahead.result.now r.scanned c.scan.new.state c.parser-parser.ensures c.ahead-ahead.ensures (c.if-scan.ensures before was) in
    scans-same g.R.Record.means g.R.Scan.scanned r.reader c.args.self.now c.self.view_is (c.scan.new.state, seen)
