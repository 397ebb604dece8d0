use Rattle.std.proofs.Common.{◌≡◌, drop}
use Rattle.format_json.specs.Language.{after_blanks}
use Rattle.format_json.proofs.found.blank_count.Given as goal

-- the bytes up to here are blanks
abbrev pub invariant-loop-index : goal.invariant-loop-index
invariant-loop-index l = after_blanks (drop l.index l.bytes) ≡ after_blanks l.bytes
