use Rattle.std.proofs.Common.{None, Some, ◌+◌, drop, ap, sym, ◌∙◌, arith}
use Rattle.std.proofs.lemmas.List.{at_drop_more}
use Rattle.format_csv.specs.Scan.{run}
use Rattle.format_csv.proofs.lemmas.ScanLemmas.{run-none}
use Rattle.format_csv.proofs.scan.go_over.Goals as goal

pub returns-in-None : goal.returns-in-None
returns-in-None c =
    let l = c.loop-byte in
    let rest = drop (l.byte-index + 1) c.args.more.now in
    sym (run-none rest) ∙ ap (λ o. run o rest) c.in-None.ensures
    ∙ sym (at_drop_more (run (Some l.now)) c.args.more.now l.byte-index 0 (omega (arith, c.loop-byte-test.true, c.loop-byte.auto))) ∙ l.invariant
