use Rattle.std.proofs.Common.{◌≡◌, drop}
use Rattle.format_json_scalars.specs.declared.parts.Part.TheVariants.{Begin}
use Rattle.format_json_scalars.specs.Parts.{run}
use Rattle.format_json_scalars.proofs.parts.last_part.Given as goal

-- what is left ends as the whole text does
abbrev pub invariant-loop-byte : goal.invariant-loop-byte
invariant-loop-byte l = run l.part (drop l.byte-index l.text) ≡ run Begin l.text
