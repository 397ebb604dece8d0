use Rattle.std.proofs.Common.{◌≡◌, ◌++◌, take}
use Rattle.std.specs.List.{flat_map}
use Rattle.format_resp.specs.Writing.{written}
use Rattle.format_resp.proofs.writing.+append_reply.Given as goal

-- the replies so far are appended
abbrev pub invariant-loop-one : goal.invariant-loop-one
invariant-loop-one l = l.bytes.items ≡ l.initial.bytes.items ++ flat_map written (take l.one-index l.one-items)
