use Rattle.std.proofs.Common.{◌≡◌, true, take}
use Rattle.std.specs.List.{list_all}
use Rattle.format_resp.specs.Writing.{is_writable}
use Rattle.format_resp.proofs.writing.+is_writable.Given as goal

-- the replies so far can be written
abbrev pub invariant-loop-one : goal.invariant-loop-one
invariant-loop-one l = list_all is_writable (take l.one-index l.one-items) ≡ true
