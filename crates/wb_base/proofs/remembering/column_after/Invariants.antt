use Rattle.std.proofs.Common.{◌≡◌, ◌+◌, ◌<◌, ◌≤◌, ◌^◌, length, take}
use Rattle.std.specs.List.{fold}
use Rattle.wb_base.specs.Positions.{next_column}
use Rattle.wb_base.proofs.remembering.column_after.Given as goal

-- the column is the one after the bytes so far
abbrev pub invariant-loop-byte : goal.invariant-loop-byte
invariant-loop-byte l = record {
  column : l.start + length l.bytes < 2 ^ 64
      → l.column ≡ fold next_column l.start (take l.byte-index l.bytes);
  within : l.start + length l.bytes < 2 ^ 64 → l.column ≤ l.start + l.byte-index;
}
