use Rattle.std.proofs.Common.{◌≡◌, ℕ, ◌+◌, ◌*◌, List, ◌++◌, take}
use Rattle.winnow_codec.specs.FormatRows.{SpellsPair}
use Rattle.winnow_codec.specs.Lists.{SpellsEach}
use Rattle.format_resp3.specs.Replies.{SpellsInner}
use Rattle.format_resp3.proofs.writing.+writing.Given as goal

abbrev pub decreases-append_inner : goal.decreases-append_inner
decreases-append_inner l = 4 * l.depth

abbrev pub decreases-append_replies : goal.decreases-append_replies
decreases-append_replies l = 4 * l.depth + 1

abbrev pub decreases-append_pair : goal.decreases-append_pair
decreases-append_pair l = 4 * l.depth + 1

abbrev pub decreases-append_pairs : goal.decreases-append_pairs
decreases-append_pairs l = 4 * l.depth + 2

abbrev pub decreases-append_nested : goal.decreases-append_nested
decreases-append_nested l = 4 * l.depth + 3

-- the replies so far are appended
abbrev pub invariant-append_replies-loop-reply : goal.invariant-append_replies-loop-reply
invariant-append_replies-loop-reply l = (spelled : List ℕ) × (SpellsEach (SpellsInner l.longest l.depth) (take l.reply-index l.replies) spelled
    × (l.bytes.items ≡ l.initial.bytes.items ++ spelled))

-- the keys so far are appended, each with its value
abbrev pub invariant-append_pairs-loop-pair : goal.invariant-append_pairs-loop-pair
invariant-append_pairs-loop-pair l = (spelled : List ℕ) × (SpellsEach (SpellsPair (SpellsInner l.longest l.depth) (SpellsInner l.longest l.depth)) (take l.pair-index l.pairs) spelled
    × (l.bytes.items ≡ l.initial.bytes.items ++ spelled))
