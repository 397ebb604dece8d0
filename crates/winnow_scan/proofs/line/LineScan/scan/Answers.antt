use Rattle.winnow_scan.proofs.lemmas.LineLemmas.{goes-on}
use Rattle.winnow_scan.proofs.line.LineScan.scan.Goals as goal

pub returns : goal.returns
returns c = λ front h.
    goes-on front c.args.more.now c.memchr.result c.is_some.result c.args._state.now c.memchr.ensures c.is_some.ensures h
