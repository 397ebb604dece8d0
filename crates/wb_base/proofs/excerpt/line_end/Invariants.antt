use Rattle.std.proofs.Common.{◌≡◌, take}
use Rattle.wb_base.specs.Positions.{line_feeds}
use Rattle.wb_base.proofs.excerpt.line_end.Given as goal

-- the first bytes so far have no line feed
abbrev pub invariant-loop-end : goal.invariant-loop-end
invariant-loop-end l = line_feeds (take l.end l.bytes) ≡ 0
