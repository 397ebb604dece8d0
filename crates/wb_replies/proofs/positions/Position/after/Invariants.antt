use Rattle.std.proofs.Common.{◌≡◌, ◌+◌, take}
use Rattle.wb_replies.specs.Positions.{position_after, IsPosition}
use Rattle.wb_replies.proofs.positions.Position.after.Given as goal

-- the place is the one after the bytes so far
abbrev pub invariant-loop-byte : goal.invariant-loop-byte
invariant-loop-byte l = record {
  after : l.place ≡ position_after l.fn.self (take l.byte-index l.bytes);
  counted : IsPosition l.place;
  moved : l.place.byte ≡ l.fn.self.byte + l.byte-index;
}
