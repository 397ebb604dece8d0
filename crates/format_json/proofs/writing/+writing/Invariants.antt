use Rattle.std.proofs.Common.{◌≡◌, ◌+◌, ◌*◌, ◌-◌, ◌∷◌, ◌++◌, take}
use Rattle.std.specs.List.{All, flat_map}
use Rattle.format_json.specs.Language.{ValueAhead}
use Rattle.format_json.specs.Writing.{written}
use Rattle.format_json.specs.Appending.{MemberHere, member_text, Stands}
use Rattle.format_json.proofs.writing.+writing.Given as goal

-- a value inside has one level less

abbrev pub decreases-append_value : goal.decreases-append_value
decreases-append_value l = 4 * l.depth + 2

abbrev pub decreases-append_array : goal.decreases-append_array
decreases-append_array l = 4 * l.depth + 1

abbrev pub decreases-append_object : goal.decreases-append_object
decreases-append_object l = 4 * l.depth + 1

abbrev pub decreases-append_member : goal.decreases-append_member
decreases-append_member l = 4 * l.depth + 3

-- the elements so far are appended, each after a comma, and each stands where it was written
abbrev pub invariant-append_array-loop-value : goal.invariant-append_array-loop-value
invariant-append_array-loop-value l =
    (l.bytes.items ≡ l.initial.bytes.items ++ flat_map (λ v. 44 ∷ written v) (take l.value-index l.value-items))
    × All (Stands ValueAhead written (l.depth - 1)) (take l.value-index l.value-items)

-- the members so far are appended, each after a comma, and each stands where it was written
abbrev pub invariant-append_object-loop-member : goal.invariant-append_object-loop-member
invariant-append_object-loop-member l =
    (l.bytes.items ≡ l.initial.bytes.items ++ flat_map (λ m. 44 ∷ member_text m) (take l.member-index l.member-items))
    × All (Stands MemberHere member_text (l.depth - 1)) (take l.member-index l.member-items)
