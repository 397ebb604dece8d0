use Rattle.std.proofs.Common.{take}
use Rattle.format_lemmas.specs.Bytes.{Each}
use Rattle.format_json_scalars.specs.Numbers.{is_number_byte}
use Rattle.format_json_scalars.proofs.numbers.number_count.Given as goal

-- the bytes up to here are those of a number
abbrev pub invariant-loop-index : goal.invariant-loop-index
invariant-loop-index l = Each is_number_byte (take l.index l.bytes)
