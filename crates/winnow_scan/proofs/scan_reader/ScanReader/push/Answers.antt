use Rattle.std.proofs.Common.{subst, sym}
use Rattle.winnow_reader.specs.Reading.{HasRead}
use Rattle.winnow_scan.proofs.scan_reader.ScanReader.push.Goals as goal

pub returns-clause-read : goal.returns-clause-read
returns-clause-read g c = λ input values h.
    let means = g.R.Record.means in
    c.in_ok-push.ensures.read input values (subst (λ f. HasRead means f input values) (sym c.self.view_is) h)
