use Rattle.std.proofs.Common.{◌≤◌, ◌-◌, length, arith}
use Rattle.winnow_reader_limit.proofs.lemmas.ScanLemmas.{goes_on-within}
use Rattle.winnow_reader_limit.proofs.scanning.LimitedScan.scan.Goals as goal

pub returns : goal.returns
returns g c = λ front h.
    let r = c.args.self.now in
    let seen = c.args.state.now.seen in
    let room : length c.args.more.now ≤ r.greatest - seen = omega (arith, c.if-more-saturating_sub.false, c.saturating_sub.ensures) in
    goes_on-within r.greatest (g.R.Record.means r.inner) (g.R.Scan.scanned r.inner) front c.args.more.now c.scan.result c.scan.new.state seen h.1 room h.2 (c.scan.ensures front h.0)
