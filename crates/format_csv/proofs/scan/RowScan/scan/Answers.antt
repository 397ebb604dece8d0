use Rattle.std.proofs.Common.{◌++◌, sym, inr}
use Rattle.format_csv.proofs.lemmas.OpenLemmas.{goes-on, open-there}
use Rattle.format_csv.proofs.scan.RowScan.scan.Goals as goal

pub returns-in-Some : goal.returns-in-Some
returns-in-Some c = λ front h.
    let e = goes-on front c.args.more.now c.args.state.now c.in-Some.next h (sym c.in-Some.ensures) in
    (e, λ place. inr (open-there (front ++ c.args.more.now) c.in-Some.next e place))
