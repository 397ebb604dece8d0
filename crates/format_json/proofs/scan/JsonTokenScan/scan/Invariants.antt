use Rattle.std.proofs.Common.{◌++◌, ℕ, List, take}
use Rattle.format_json.specs.Scan.{IsScanned}
use Rattle.format_json.proofs.scan.JsonTokenScan.scan.Given as goal

-- the bytes so far are scanned after those before
abbrev pub invariant-loop-byte : goal.invariant-loop-byte
invariant-loop-byte l = (front : List ℕ) → IsScanned front l.fn.state → IsScanned (front ++ take l.byte-index l.more) l.state
