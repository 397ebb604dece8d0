use Rattle.std.proofs.Common.{◌≡◌, true, take}
use Rattle.std.specs.List.{list_all}
use Rattle.wb_json.specs.Lines.{continues_name}
use Rattle.wb_json.proofs.lines.continue_name.Given as goal

-- an identifier may go on with the bytes so far
abbrev pub invariant-loop-byte : goal.invariant-loop-byte
invariant-loop-byte l = list_all continues_name (take l.byte-index l.bytes) ≡ true
