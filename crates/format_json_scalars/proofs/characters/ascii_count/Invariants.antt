use Rattle.std.proofs.Common.{take}
use Rattle.format_lemmas.specs.Bytes.{Each}
use Rattle.format_json_scalars.specs.Strings.{is_plain_ascii}
use Rattle.format_json_scalars.proofs.characters.ascii_count.Given as goal

-- the bytes up to here are plain characters of ASCII
abbrev pub invariant-loop-index : goal.invariant-loop-index
invariant-loop-index l = Each is_plain_ascii (take l.index l.bytes)
