use Rattle.std.proofs.Common.{IsTrue, take}
use Rattle.std.specs.Fmt.{HasWrittenStyled, IsFlush}
use Rattle.std.specs.List.{flat_map}
use Rattle.winnow_kinds.specs.Escapes.{escape, is_ascii}
use Rattle.winnow_kinds.proofs.escapes.write_bytes.Given as goal

abbrev pub invariant-loop-byte : goal.invariant-loop-byte
invariant-loop-byte g l =
    IsTrue (is_ascii l.fn.bytes) → IsFlush l.initial.f → HasWrittenStyled g.W.Write.write_str_gives l.initial.f (flat_map escape (take l.byte-index l.bytes)) l.f
