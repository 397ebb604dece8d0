use Rattle.std.proofs.Common.{◌≡◌, ◌++◌, take, map}
use Rattle.wb_replies.specs.Raw.{raw_entries}
use Rattle.wb_replies3.specs.Raw.{raw, raw_pair}
use Rattle.wb_replies3.proofs.raw.+raw.Given as goal

-- the replies so far are appended
abbrev pub invariant-append_texts-loop-index : goal.invariant-append_texts-loop-index
invariant-append_texts-loop-index l =
    l.text.items ≡ l.initial.text.items ++ raw_entries 0 (map raw (take l.index l.replies))

-- the pairs so far are appended
abbrev pub invariant-append_text_pairs-loop-index : goal.invariant-append_text_pairs-loop-index
invariant-append_text_pairs-loop-index l =
    l.text.items ≡ l.initial.text.items ++ raw_entries 0 (map raw_pair (take l.index l.pairs))
