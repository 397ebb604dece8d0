use Rattle.std.proofs.Common.{◌≡◌, ◌++◌, take, map}
use Rattle.wb_replies.specs.Lines.{entries}
use Rattle.wb_replies3.specs.Printing.{shown, shown_pair}
use Rattle.wb_replies3.proofs.printing.+printing.Given as goal

-- the replies so far are appended
abbrev pub invariant-append_list-loop-index : goal.invariant-append_list-loop-index
invariant-append_list-loop-index l =
    l.text.items ≡ l.initial.text.items ++ entries l.mark l.margin l.width 0 (map shown (take l.index l.replies))

-- the pairs so far are appended
abbrev pub invariant-append_pairs-loop-index : goal.invariant-append_pairs-loop-index
invariant-append_pairs-loop-index l =
    l.text.items ≡ l.initial.text.items ++ entries 35 l.margin l.width 0 (map shown_pair (take l.index l.pairs))
