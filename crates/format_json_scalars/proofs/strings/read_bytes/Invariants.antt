use Rattle.std.proofs.Common.{length, ◌-◌}
use Rattle.std.specs.String.{string_bytes}
use Rattle.format_json_scalars.specs.Steps.{HasRead}
use Rattle.format_json_scalars.proofs.strings.read_bytes.Given as goal

-- the bytes up to here are a quote and characters, and the value has these
abbrev pub invariant-loop-at : goal.invariant-loop-at
invariant-loop-at l = HasRead l.bytes l.at (string_bytes l.value)

abbrev pub decreases-loop-at : goal.decreases-loop-at
decreases-loop-at l = length l.bytes - l.at
