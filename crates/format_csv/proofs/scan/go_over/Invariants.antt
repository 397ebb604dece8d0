use Rattle.std.proofs.Common.{◌≡◌, Some, drop}
use Rattle.format_csv.specs.Scan.{run}
use Rattle.format_csv.proofs.scan.go_over.Given as goal

-- from where the scan is, the rest leads to where all leads
abbrev pub invariant-loop-byte : goal.invariant-loop-byte
invariant-loop-byte l = run (Some l.now) (drop l.byte-index l.more) ≡ run (Some l.fn.state) l.more
