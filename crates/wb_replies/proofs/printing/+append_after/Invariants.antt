use Rattle.std.proofs.Common.{◌≡◌, ◌++◌, take, map}
use Rattle.wb_replies.specs.Lines.{entries}
use Rattle.wb_replies.specs.Printing.{shown}
use Rattle.wb_replies.proofs.printing.+append_after.Given as goal

-- the replies so far are appended
abbrev pub invariant-loop-index : goal.invariant-loop-index
invariant-loop-index l =
    l.text.items ≡ l.initial.text.items ++ entries 41 l.margin l.width 0 (map shown (take l.index l.one-items))
