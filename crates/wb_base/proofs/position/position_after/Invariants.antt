use Rattle.std.proofs.Common.{◌≡◌, ◌+◌, ◌≤◌, take}
use Rattle.wb_base.specs.Positions.{line_feeds, after_feed}
use Rattle.wb_base.proofs.position.position_after.Given as goal

-- the position is the one after the bytes so far
abbrev pub invariant-loop-byte : goal.invariant-loop-byte
invariant-loop-byte l = record {
  line : l.line ≡ 1 + (l.feeds + line_feeds (take l.byte-index l.text));
  column : l.column ≡ 1 + after_feed (take l.byte-index l.text);
  lines : l.line ≤ 1 + (l.feeds + l.byte-index);
  columns : l.column ≤ 1 + l.byte-index;
}
