use Rattle.std.proofs.Common.{◌≡◌, ◌≤◌, length, take}
use Rattle.format_json.proofs.found.word_at.Given as goal

-- the bytes up to here are those of the word
abbrev pub invariant-loop-index : goal.invariant-loop-index
invariant-loop-index l = (l.index ≤ length l.bytes) × (take l.index l.bytes ≡ take l.index l.word)
