use Rattle.std.proofs.Common.{◌≡◌, ◌∷◌, ◌++◌, take}
use Rattle.std.specs.List.{flat_map}
use Rattle.format_json_scalars.specs.Quoting.{written_byte}
use Rattle.format_json_scalars.proofs.quoting.append_string.Given as goal

-- the bytes so far are appended, after the opening quote
abbrev pub invariant-loop-byte : goal.invariant-loop-byte
invariant-loop-byte l =
    l.bytes.items ≡ l.fn.bytes.items ++ 34 ∷ flat_map written_byte (take l.byte-index l.text)
