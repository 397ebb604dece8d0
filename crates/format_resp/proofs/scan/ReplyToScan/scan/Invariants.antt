use Rattle.std.proofs.Common.{ℕ, ◌-◌, ◌≤◌, List, ◌++◌, length, take}
use Rattle.format_resp.specs.Scan.{IsScanned}
use Rattle.format_resp.proofs.scan.ReplyToScan.scan.Given as goal

-- the bytes so far are scanned after those before
abbrev pub invariant-loop-at : goal.invariant-loop-at
invariant-loop-at l = (l.at ≤ length l.more) × ((front : List ℕ) → IsScanned l.self.longest l.self.depth front l.fn.state
    → IsScanned l.self.longest l.self.depth (front ++ take l.at l.more) l.state)

abbrev pub decreases-loop-at : goal.decreases-loop-at
decreases-loop-at l = length l.more - l.at
