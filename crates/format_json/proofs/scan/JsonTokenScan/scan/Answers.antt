use Rattle.std.proofs.Common.{◌≡◌, ◌++◌, length, arith}
use Rattle.format_json.proofs.lemmas.ScanLemmas.{awaits-token, scanned-all}
use Rattle.format_json.proofs.scan.JsonTokenScan.scan.Goals as goal

pub returns : goal.returns
returns c = λ front h.
    let more = c.args.more.now in
    let whole : c.loop-byte.byte-index ≡ length more = grind (arith, c.loop-byte-test.false, c.loop-byte.auto.byte-index-end) in
    let all = scanned-all front more c.loop-byte.byte-index c.loop-byte.state whole (c.loop-byte.invariant front h) in
    (all, awaits-token (front ++ more) c.loop-byte.state all)
