use Rattle.std.proofs.Common.{◌≡◌, ◌++◌, take, map}
use Rattle.wb_replies.specs.Raw.{raw, raw_entries}
use Rattle.wb_replies.proofs.raw.+append_text.Given as goal

-- the replies so far are appended
abbrev pub invariant-loop-index : goal.invariant-loop-index
invariant-loop-index l =
    l.text.items ≡ l.initial.text.items ++ raw_entries 0 (map raw (take l.index l.one-items))
