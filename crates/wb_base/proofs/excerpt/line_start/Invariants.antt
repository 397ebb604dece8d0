use Rattle.std.proofs.Common.{◌≡◌, ◌-◌, length, drop}
use Rattle.wb_base.specs.Positions.{line_feeds}
use Rattle.wb_base.proofs.excerpt.line_start.Given as goal

-- the last bytes so far have no line feed
abbrev pub invariant-loop-back : goal.invariant-loop-back
invariant-loop-back l = line_feeds (drop (length l.bytes - l.back) l.bytes) ≡ 0
