use Rattle.std.proofs.Common.{ℕ, ◌-◌, ◌≤◌, List, length, drop}
use Rattle.format_resp.specs.Parts.{EndsInPart}
use Rattle.format_resp.proofs.causes.last_part.Given as goal

-- the bytes end in the part in which those from here on do
abbrev pub invariant-loop-width : goal.invariant-loop-width
invariant-loop-width l = record {
  within : l.at ≤ length l.bytes;
  last : (begun : List ℕ) → EndsInPart (drop l.at l.bytes) begun → EndsInPart l.bytes begun;
}

-- the bytes from here on
abbrev pub decreases-loop-width : goal.decreases-loop-width
decreases-loop-width l = length l.bytes - l.at
