use Rattle.std.proofs.Common.{◌≡◌, ℕ, List, ◌+◌, ◌++◌, take}
use Rattle.example_json.specs.Positions.{LeadsTo, IsWithin}
use Rattle.example_json.proofs.positions.Line.after.Given as goal

-- the line is the one after the bytes so far
abbrev pub invariant-loop-byte : goal.invariant-loop-byte
invariant-loop-byte l = record {
  leads : (input : List ℕ) → LeadsTo input l.fn.self
      → LeadsTo (input ++ take l.byte-index l.bytes) l.line;
  within : IsWithin l.line;
  counted : l.line.bytes ≡ l.fn.self.bytes + l.byte-index;
}
