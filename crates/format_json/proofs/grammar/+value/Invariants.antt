use Rattle.std.proofs.Common.{suc, ◌+◌, ◌-◌, ◌*◌, length}
use Rattle.format_json.specs.Language.{Nested, MemberAhead}
use Rattle.format_json.proofs.lemmas.FoundLemmas.{HasRead}
use Rattle.format_json.proofs.grammar.+value.Given as goal

-- what stands between brackets has one level less

abbrev pub decreases-array_at : goal.decreases-array_at
decreases-array_at l = 8 * l.depth + 0

abbrev pub decreases-object_at : goal.decreases-object_at
decreases-object_at l = 8 * l.depth + 0

abbrev pub decreases-value_here : goal.decreases-value_here
decreases-value_here l = 8 * l.depth + 1

abbrev pub decreases-value_at : goal.decreases-value_at
decreases-value_at l = 8 * l.depth + 2

abbrev pub decreases-member_after : goal.decreases-member_after
decreases-member_after l = 8 * l.depth + 3

abbrev pub decreases-member_at : goal.decreases-member_at
decreases-member_at l = 8 * l.depth + 4

abbrev pub decreases-elements_at : goal.decreases-elements_at
decreases-elements_at l = 8 * l.depth + 5

abbrev pub decreases-members_at : goal.decreases-members_at
decreases-members_at l = 8 * l.depth + 5

-- the bytes up to here are these elements, each with a comma
abbrev pub invariant-elements_at-loop-elements : goal.invariant-elements_at-loop-elements
invariant-elements_at-loop-elements l =
    HasRead (Nested l.partial (suc l.depth)) 93 l.partial l.bytes l.at l.elements.items

abbrev pub decreases-elements_at-loop-elements : goal.decreases-elements_at-loop-elements
decreases-elements_at-loop-elements l = length l.bytes - l.at

-- the bytes up to here are these members, each with a comma
abbrev pub invariant-members_at-loop-members : goal.invariant-members_at-loop-members
invariant-members_at-loop-members l =
    HasRead (MemberAhead (Nested l.partial (suc l.depth))) 125 l.partial l.bytes l.at l.members.items

abbrev pub decreases-members_at-loop-members : goal.decreases-members_at-loop-members
decreases-members_at-loop-members l = length l.bytes - l.at
