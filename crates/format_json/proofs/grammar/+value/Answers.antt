use Rattle.std.proofs.Common.{inl, rules, ◌≡◌, ◌∷◌, ◌<◌, suc, ◌+◌, ◌-◌, length, take, drop, ap, refl, sym, ◌∙◌, subst, arith}
use Rattle.std.proofs.lemmas.Result.{IfOk-weaker}
use Rattle.std.proofs.lemmas.List.{take_rest, drop-drop}
use Rattle.std.proofs.lemmas.Bool.Decides.{nat_tests}
use Rattle.format_json.specs.Language.{after_blanks, Nested, MemberAhead, ValueHere}
use Rattle.format_json.specs.Founds.{IsFound, IsByte, ByteAhead}
use Rattle.format_json_scalars.specs.StringAnswers.{IsBegun, StringHere}
use Rattle.format_json.specs.Begun.{BeginsScalar, BeginsHere, BeginsValue, BeginsElementsIn, BeginsMemberIn, BeginsMembersIn, BeginsArray, BeginsObject, IsOpen}
use Rattle.format_json.specs.Damage.{StringBreaksOff, ByteIsMissing, HereBreaksOff, BreaksOff, ElementsIn, MemberIn, MembersIn, ArrayBreaksOff, ObjectBreaksOff, ScalarBreaksOff, IsPlaced}
use Rattle.format_json.specs.declared.found.Found.TheVariants.{Whole, Begun, Damaged}
use Rattle.format_json_scalars.proofs.lemmas.StringLemmas.{starts-with}
use Rattle.format_json.proofs.lemmas.FoundLemmas.{found-same, begun-as, damaged-as, missed-as, fits-both}
use Rattle.format_json.proofs.lemmas.LayerLemmas.{ArrayHere, ObjectHere, array-begun, array-damaged, object-begun, object-damaged}
use Rattle.format_json.proofs.lemmas.NestedLemmas.{value-whole, value-begun, value-damaged, nested-some, members-some, name-covers, colon-covers, member-covers}
use Rattle.format_json.proofs.lemmas.BegunLemmas.{open-same, open-as, array-waits, object-waits, here-begins-scalar, here-begins-array, here-begins-object, name-waits, value-begins}
use Rattle.format_json.proofs.lemmas.DamageLemmas.{if-both, placed-same, here-array, here-object, here-scalar, ahead-placed, name-stop, colon-stop, value-stop}
use Rattle.format_json.proofs.lemmas.ElementLemmas.{element-begun, element-damaged, element-placed, element-opens, comma-read, close-read, next-begun, next-damaged, next-placed, next-opens, values-in-one-way, members-in-one-way, brackets-wait, brackets-full, brackets-read, brackets-open, brackets-wrong, full-placed, brackets-placed, brackets-opens}
use Rattle.format_json.proofs.grammar.+value.Goals as goal

pub elements_at-returns-in-Begun-clause-found : goal.elements_at-returns-in-Begun-clause-found
elements_at-returns-in-Begun-clause-found t c =
    element-begun (Nested c.args.partial (suc c.args.depth)) 93 c.args.partial c.args.bytes.now c.loop-elements.at c.loop-elements.elements.items c.loop-elements.invariant c.in_ok-value.field-0 c.in_ok-value.ensures.found c.in-Begun.is

pub elements_at-returns-in-Damaged-clause-found : goal.elements_at-returns-in-Damaged-clause-found
elements_at-returns-in-Damaged-clause-found t c =
    element-damaged (Nested c.args.partial (suc c.args.depth)) 93 c.args.partial c.args.bytes.now c.loop-elements.at c.loop-elements.elements.items c.loop-elements.invariant c.in_ok-value.field-0 c.in_ok-value.ensures.found c.in-Damaged.width c.in-Damaged.is

pub elements_at-loop-elements-preserved : goal.elements_at-loop-elements-preserved
elements_at-loop-elements-preserved t c =
    comma-read (Nested c.args.partial (suc c.args.depth)) 93 c.args.partial c.args.bytes.now c.loop-elements.at c.loop-elements.elements.items c.loop-elements.invariant c.in_ok-value.field-0 c.in_ok-value.ensures.found c.in-Whole.value c.in-Whole.width c.in-Whole.is (values-in-one-way c.args.partial (suc c.args.depth)) c.in-More.width _ c.in-More.ensures c.in_ok-push-in-Whole.ensures.items

pub elements_at-returns-in-Closed-clause-found : goal.elements_at-returns-in-Closed-clause-found
elements_at-returns-in-Closed-clause-found t c =
    close-read (Nested c.args.partial (suc c.args.depth)) 93 c.args.partial c.args.bytes.now c.loop-elements.at c.loop-elements.elements.items c.loop-elements.invariant c.in_ok-value.field-0 c.in_ok-value.ensures.found c.in-Whole.value c.in-Whole.width c.in-Whole.is (values-in-one-way c.args.partial (suc c.args.depth)) c.in-Closed.width _ c.in-Closed.ensures c.in_ok-push-in-Whole.ensures.items

pub elements_at-returns-in-Begun-next_at-clause-found :
    goal.elements_at-returns-in-Begun-next_at-clause-found
elements_at-returns-in-Begun-next_at-clause-found t c =
    next-begun (Nested c.args.partial (suc c.args.depth)) 93 c.args.partial c.args.bytes.now c.loop-elements.at c.loop-elements.elements.items c.loop-elements.invariant c.in_ok-value.field-0 c.in_ok-value.ensures.found c.in-Whole.value c.in-Whole.width c.in-Whole.is (values-in-one-way c.args.partial (suc c.args.depth)) c.in-Begun-next_at.ensures

pub elements_at-returns-in-Damaged-next_at-clause-found :
    goal.elements_at-returns-in-Damaged-next_at-clause-found
elements_at-returns-in-Damaged-next_at-clause-found t c =
    next-damaged (Nested c.args.partial (suc c.args.depth)) 93 c.args.partial c.args.bytes.now c.loop-elements.at c.loop-elements.elements.items c.loop-elements.invariant c.in_ok-value.field-0 c.in_ok-value.ensures.found c.in-Whole.value c.in-Whole.width c.in-Whole.is (values-in-one-way c.args.partial (suc c.args.depth)) c.in-Damaged-next_at.width c.in-Damaged-next_at.ensures

pub members_at-returns-in-Begun-clause-found : goal.members_at-returns-in-Begun-clause-found
members_at-returns-in-Begun-clause-found t c =
    element-begun (MemberAhead (Nested c.args.partial (suc c.args.depth))) 125 c.args.partial c.args.bytes.now c.loop-members.at c.loop-members.members.items c.loop-members.invariant c.in_ok-member.field-0 c.in_ok-member.ensures.found c.in-Begun.is

pub members_at-returns-in-Damaged-clause-found : goal.members_at-returns-in-Damaged-clause-found
members_at-returns-in-Damaged-clause-found t c =
    element-damaged (MemberAhead (Nested c.args.partial (suc c.args.depth))) 125 c.args.partial c.args.bytes.now c.loop-members.at c.loop-members.members.items c.loop-members.invariant c.in_ok-member.field-0 c.in_ok-member.ensures.found c.in-Damaged.width c.in-Damaged.is

pub members_at-loop-members-preserved : goal.members_at-loop-members-preserved
members_at-loop-members-preserved t c =
    comma-read (MemberAhead (Nested c.args.partial (suc c.args.depth))) 125 c.args.partial c.args.bytes.now c.loop-members.at c.loop-members.members.items c.loop-members.invariant c.in_ok-member.field-0 c.in_ok-member.ensures.found c.in-Whole.member c.in-Whole.width c.in-Whole.is (members-in-one-way c.args.partial (suc c.args.depth)) c.in-More.width _ c.in-More.ensures c.in_ok-push-in-Whole.ensures.items

pub members_at-returns-in-Closed-clause-found : goal.members_at-returns-in-Closed-clause-found
members_at-returns-in-Closed-clause-found t c =
    close-read (MemberAhead (Nested c.args.partial (suc c.args.depth))) 125 c.args.partial c.args.bytes.now c.loop-members.at c.loop-members.members.items c.loop-members.invariant c.in_ok-member.field-0 c.in_ok-member.ensures.found c.in-Whole.member c.in-Whole.width c.in-Whole.is (members-in-one-way c.args.partial (suc c.args.depth)) c.in-Closed.width _ c.in-Closed.ensures c.in_ok-push-in-Whole.ensures.items

pub members_at-returns-in-Begun-next_at-clause-found :
    goal.members_at-returns-in-Begun-next_at-clause-found
members_at-returns-in-Begun-next_at-clause-found t c =
    next-begun (MemberAhead (Nested c.args.partial (suc c.args.depth))) 125 c.args.partial c.args.bytes.now c.loop-members.at c.loop-members.members.items c.loop-members.invariant c.in_ok-member.field-0 c.in_ok-member.ensures.found c.in-Whole.member c.in-Whole.width c.in-Whole.is (members-in-one-way c.args.partial (suc c.args.depth)) c.in-Begun-next_at.ensures

pub members_at-returns-in-Damaged-next_at-clause-found :
    goal.members_at-returns-in-Damaged-next_at-clause-found
members_at-returns-in-Damaged-next_at-clause-found t c =
    next-damaged (MemberAhead (Nested c.args.partial (suc c.args.depth))) 125 c.args.partial c.args.bytes.now c.loop-members.at c.loop-members.members.items c.loop-members.invariant c.in_ok-member.field-0 c.in_ok-member.ensures.found c.in-Whole.member c.in-Whole.width c.in-Whole.is (members-in-one-way c.args.partial (suc c.args.depth)) c.in-Damaged-next_at.width c.in-Damaged-next_at.ensures

pub array_at-returns-in-Begun-clause-found : goal.array_at-returns-in-Begun-clause-found
array_at-returns-in-Begun-clause-found t c =
    brackets-wait (Nested c.args.partial) 93 91 c.args.partial c.args.bytes.now c.requires c.args.depth (nested-some c.args.partial c.args.depth) c.in-Begun.ensures.found

pub object_at-returns-in-Begun-clause-found : goal.object_at-returns-in-Begun-clause-found
object_at-returns-in-Begun-clause-found t c =
    brackets-wait (λ d. MemberAhead (Nested c.args.partial d)) 125 123 c.args.partial c.args.bytes.now c.requires c.args.depth (members-some c.args.partial c.args.depth) c.in-Begun.ensures.found

pub member_after-returns-in-Begun-clause-found : goal.member_after-returns-in-Begun-clause-found
member_after-returns-in-Begun-clause-found t c =
    let b = c.args.bytes.now in
    let p = c.args.partial in
    let inner = Nested c.args.partial (suc c.args.depth) in
    let start = c.args.start in
    let byte = subst (λ l. IsByte 58 p l Begun) (take_rest b start) c.in-Begun.ensures.found in
    (byte.0, missed-as (ByteAhead 58) (MemberAhead inner) p (drop start b) b (colon-covers p inner b c.args.name start c.requires.named) (λ done s h. let f = sym byte.1 ∙ h in cc f))

pub member_after-returns-in-Damaged-clause-found : goal.member_after-returns-in-Damaged-clause-found
member_after-returns-in-Damaged-clause-found t c =
    let b = c.args.bytes.now in
    let p = c.args.partial in
    let inner = Nested c.args.partial (suc c.args.depth) in
    let start = c.args.start in
    let n = c.in-Damaged.width in
    let byte = subst (λ l. IsByte 58 p l (Damaged n)) (take_rest b start) c.in-Damaged.ensures.found in
    damaged-as (ByteAhead 58) (MemberAhead inner) p (drop start b) b (colon-covers p inner b c.args.name start c.requires.named) n (start + n) (fits-both b start n c.requires.within byte.0) byte

pub member_after-returns-in-Begun-2-clause-found : goal.member_after-returns-in-Begun-2-clause-found
member_after-returns-in-Begun-2-clause-found t c =
    let b = c.args.bytes.now in
    let p = c.args.partial in
    let inner = Nested c.args.partial (suc c.args.depth) in
    let start = c.args.start in
    let colon = c.in-Whole.colon in
    let at = start + colon in
    let is : after_blanks (drop start b) ≡ 58 ∷ drop at b = (subst (λ l. IsByte 58 p l (Whole tt colon)) (take_rest b start) c.in-Whole.ensures.found).1 ∙ ap (λ l. 58 ∷ l) (drop-drop colon start b) in
    begun-as inner (MemberAhead inner) p (drop at b) b (member-covers p inner b c.args.name start c.requires.named at is) (found-same inner p (take (length b - at) (drop at b)) (drop at b) c.in_ok-value-in-Whole.field-0 Begun c.in_ok-value-in-Whole.ensures.found (take_rest b at) c.in-Begun-2.is)

pub member_after-returns-in-Damaged-2-clause-found : goal.member_after-returns-in-Damaged-2-clause-found
member_after-returns-in-Damaged-2-clause-found t c =
    let b = c.args.bytes.now in
    let p = c.args.partial in
    let inner = Nested c.args.partial (suc c.args.depth) in
    let start = c.args.start in
    let colon = c.in-Whole.colon in
    let byte = subst (λ l. IsByte 58 p l (Whole tt colon)) (take_rest b start) c.in-Whole.ensures.found in
    let at = start + colon in
    let is : after_blanks (drop start b) ≡ 58 ∷ drop at b = byte.1 ∙ ap (λ l. 58 ∷ l) (drop-drop colon start b) in
    let n = c.in-Damaged-2.width in
    let found = found-same inner p (take (length b - at) (drop at b)) (drop at b) c.in_ok-value-in-Whole.field-0 (Damaged n) c.in_ok-value-in-Whole.ensures.found (take_rest b at) c.in-Damaged-2.is in
    damaged-as inner (MemberAhead inner) p (drop at b) b (member-covers p inner b c.args.name start c.requires.named at is) n (at + n) (fits-both b at n (fits-both b start colon c.requires.within byte.0) found.0) found

pub member_at-returns-in-Begun-clause-found : goal.member_at-returns-in-Begun-clause-found
member_at-returns-in-Begun-clause-found t c =
    let b = c.args.bytes.now in
    let p = c.args.partial in
    let inner = Nested c.args.partial (suc c.args.depth) in
    let at = c.blank_count-at.result in
    begun-as StringHere (MemberAhead inner) p (drop at b) b (name-covers p inner b at c.blank_count-at.ensures.rest) (found-same StringHere p (take (length b - at) (drop at b)) (drop at b) c.in_ok-name.field-0 Begun c.in_ok-name.ensures.found (take_rest b at) c.in-Begun.is)

pub member_at-returns-in-Damaged-clause-found : goal.member_at-returns-in-Damaged-clause-found
member_at-returns-in-Damaged-clause-found t c =
    let b = c.args.bytes.now in
    let p = c.args.partial in
    let inner = Nested c.args.partial (suc c.args.depth) in
    let at = c.blank_count-at.result in
    let n = c.in-Damaged.width in
    let found = found-same StringHere p (take (length b - at) (drop at b)) (drop at b) c.in_ok-name.field-0 (Damaged n) c.in_ok-name.ensures.found (take_rest b at) c.in-Damaged.is in
    damaged-as StringHere (MemberAhead inner) p (drop at b) b (name-covers p inner b at c.blank_count-at.ensures.rest) n (at + n) (fits-both b at n c.blank_count-at.ensures.within found.0) found

pub value_at-returns-in-Whole-clause-found : goal.value_at-returns-in-Whole-clause-found
value_at-returns-in-Whole-clause-found t c =
    let b = c.args.bytes.now in
    let p = c.args.partial in
    let at = c.blank_count-at.result in
    value-whole p c.args.depth b at c.blank_count-at.ensures.within c.blank_count-at.ensures.rest c.in-Whole.value c.in-Whole.width (found-same (ValueHere p c.args.depth) p (take (length b - at) (drop at b)) (drop at b) c.in_ok-value.field-0 (Whole c.in-Whole.value c.in-Whole.width) c.in_ok-value.ensures.found (take_rest b at) c.in-Whole.is)

pub value_at-returns-in-Begun-clause-found : goal.value_at-returns-in-Begun-clause-found
value_at-returns-in-Begun-clause-found t c =
    let b = c.args.bytes.now in
    let p = c.args.partial in
    let at = c.blank_count-at.result in
    value-begun p c.args.depth b at c.blank_count-at.ensures.within c.blank_count-at.ensures.rest (found-same (ValueHere p c.args.depth) p (take (length b - at) (drop at b)) (drop at b) c.in_ok-value.field-0 Begun c.in_ok-value.ensures.found (take_rest b at) c.in-Begun.is)

pub value_at-returns-in-Damaged-clause-found : goal.value_at-returns-in-Damaged-clause-found
value_at-returns-in-Damaged-clause-found t c =
    let b = c.args.bytes.now in
    let p = c.args.partial in
    let at = c.blank_count-at.result in
    value-damaged p c.args.depth b at c.blank_count-at.ensures.within c.blank_count-at.ensures.rest c.in-Damaged.width (found-same (ValueHere p c.args.depth) p (take (length b - at) (drop at b)) (drop at b) c.in_ok-value.field-0 (Damaged c.in-Damaged.width) c.in_ok-value.ensures.found (take_rest b at) c.in-Damaged.is)

pub value_here-returns-then-is_empty-clause-found : goal.value_here-returns-then-is_empty-clause-found
value_here-returns-then-is_empty-clause-found t c =
    c.scalar_at.ensures.found c.args.depth

pub value_here-returns-clause-found : goal.value_here-returns-clause-found
value_here-returns-clause-found t c =
    c.scalar_at-2.ensures.found c.args.depth

pub value_here-returns-in-Begun-clause-found : goal.value_here-returns-in-Begun-clause-found
value_here-returns-in-Begun-clause-found t c =
    let b = c.args.bytes.now in
    let p = c.args.partial in
    let some : 0 < length b = grind (arith, nat_tests, c.is_empty.ensures, c.if-is_empty.false) in
    array-begun p c.args.depth b (starts-with b 91 some c.if-first-eq91.true) (found-same (ArrayHere p c.args.depth b) p b b c.in_ok-elements.field-0 Begun c.in_ok-elements.ensures.found refl c.in-Begun.is)

pub value_here-returns-in-Damaged-clause-found : goal.value_here-returns-in-Damaged-clause-found
value_here-returns-in-Damaged-clause-found t c =
    let b = c.args.bytes.now in
    let p = c.args.partial in
    let some : 0 < length b = grind (arith, nat_tests, c.is_empty.ensures, c.if-is_empty.false) in
    array-damaged p c.args.depth b (starts-with b 91 some c.if-first-eq91.true) c.in-Damaged.width (found-same (ArrayHere p c.args.depth b) p b b c.in_ok-elements.field-0 (Damaged c.in-Damaged.width) c.in_ok-elements.ensures.found refl c.in-Damaged.is)

pub value_here-returns-in-Begun-2-clause-found : goal.value_here-returns-in-Begun-2-clause-found
value_here-returns-in-Begun-2-clause-found t c =
    let b = c.args.bytes.now in
    let p = c.args.partial in
    let some : 0 < length b = grind (arith, nat_tests, c.is_empty.ensures, c.if-is_empty.false) in
    object-begun p c.args.depth b (starts-with b 123 some c.if-first-eq123.true) (found-same (ObjectHere p c.args.depth b) p b b c.in_ok-members.field-0 Begun c.in_ok-members.ensures.found refl c.in-Begun-2.is)

pub value_here-returns-in-Damaged-2-clause-found : goal.value_here-returns-in-Damaged-2-clause-found
value_here-returns-in-Damaged-2-clause-found t c =
    let b = c.args.bytes.now in
    let p = c.args.partial in
    let some : 0 < length b = grind (arith, nat_tests, c.is_empty.ensures, c.if-is_empty.false) in
    object-damaged p c.args.depth b (starts-with b 123 some c.if-first-eq123.true) c.in-Damaged-2.width (found-same (ObjectHere p c.args.depth b) p b b c.in_ok-members.field-0 (Damaged c.in-Damaged-2.width) c.in_ok-members.ensures.found refl c.in-Damaged-2.is)

pub array_at-returns-then-depth-eq0-clause-found : goal.array_at-returns-then-depth-eq0-clause-found
array_at-returns-then-depth-eq0-clause-found t c =
    brackets-full (Nested c.args.partial) 93 91 c.args.partial c.args.bytes.now c.requires c.args.depth (sym c.if-depth-eq0.true) (λ v c r h. h) c.in-Damaged.width c.in-Damaged.ensures.found

pub array_at-returns-then-depth-eq0-clause-place : goal.array_at-returns-then-depth-eq0-clause-place
array_at-returns-then-depth-eq0-clause-place t c =
    full-placed c.args.bytes.now 91 c.requires c.args.depth (ArrayBreaksOff c.args.partial) 93 c.in-Damaged.width (λ r h. h) (sym c.if-depth-eq0.true) c.in-Damaged.ensures.place

pub array_at-returns-in-Whole-2-clause-found : goal.array_at-returns-in-Whole-2-clause-found
array_at-returns-in-Whole-2-clause-found t c =
    brackets-read (Nested c.args.partial) 93 91 c.args.partial c.args.bytes.now c.requires c.args.depth (omega (arith, c.if-depth-eq0.false)) c.in_ok-elements-in-Damaged.field-0 c.in_ok-elements-in-Damaged.ensures.found c.in-Whole-2.elements c.in-Whole-2.width c.in-Whole-2.is

pub array_at-returns-in-Begun-2-clause-found : goal.array_at-returns-in-Begun-2-clause-found
array_at-returns-in-Begun-2-clause-found t c =
    brackets-open (Nested c.args.partial) 93 91 c.args.partial c.args.bytes.now c.requires c.args.depth (omega (arith, c.if-depth-eq0.false)) c.in_ok-elements-in-Damaged.field-0 c.in_ok-elements-in-Damaged.ensures.found c.in-Damaged.width c.in-Damaged.ensures.found c.in-Begun-2.is

pub array_at-returns-in-Damaged-2-clause-found : goal.array_at-returns-in-Damaged-2-clause-found
array_at-returns-in-Damaged-2-clause-found t c =
    brackets-wrong (Nested c.args.partial) 93 91 c.args.partial c.args.bytes.now c.requires c.args.depth (omega (arith, c.if-depth-eq0.false)) c.in_ok-elements-in-Damaged.field-0 c.in_ok-elements-in-Damaged.ensures.found c.in-Damaged.width c.in-Damaged.ensures.found c.in-Damaged-2.width c.in-Damaged-2.is

pub array_at-returns-in-Damaged-2-clause-place : goal.array_at-returns-in-Damaged-2-clause-place
array_at-returns-in-Damaged-2-clause-place t c =
    brackets-placed c.args.bytes.now 91 c.requires c.args.depth (ArrayBreaksOff c.args.partial) (ElementsIn c.args.partial (c.args.depth - 1)) 93 c.in-Damaged.width (λ r h. h) (omega (arith, c.if-depth-eq0.false)) c.in-Damaged.ensures.place c.in_ok-elements-in-Damaged.field-0 c.in-Damaged-2.width c.in_ok-elements-in-Damaged.ensures.place c.in-Damaged-2.is

pub object_at-returns-then-depth-eq0-clause-found :
    goal.object_at-returns-then-depth-eq0-clause-found
object_at-returns-then-depth-eq0-clause-found t c =
    brackets-full (λ d. MemberAhead (Nested c.args.partial d)) 125 123 c.args.partial c.args.bytes.now c.requires c.args.depth (sym c.if-depth-eq0.true) (λ v c r h. h.1.1.2) c.in-Damaged.width c.in-Damaged.ensures.found

pub object_at-returns-then-depth-eq0-clause-place :
    goal.object_at-returns-then-depth-eq0-clause-place
object_at-returns-then-depth-eq0-clause-place t c =
    full-placed c.args.bytes.now 123 c.requires c.args.depth (ObjectBreaksOff c.args.partial) 125 c.in-Damaged.width (λ r h. h) (sym c.if-depth-eq0.true) c.in-Damaged.ensures.place

pub object_at-returns-in-Whole-2-clause-found : goal.object_at-returns-in-Whole-2-clause-found
object_at-returns-in-Whole-2-clause-found t c =
    brackets-read (λ d. MemberAhead (Nested c.args.partial d)) 125 123 c.args.partial c.args.bytes.now c.requires c.args.depth (omega (arith, c.if-depth-eq0.false)) c.in_ok-members-in-Damaged.field-0 c.in_ok-members-in-Damaged.ensures.found c.in-Whole-2.members c.in-Whole-2.width c.in-Whole-2.is

pub object_at-returns-in-Begun-2-clause-found : goal.object_at-returns-in-Begun-2-clause-found
object_at-returns-in-Begun-2-clause-found t c =
    brackets-open (λ d. MemberAhead (Nested c.args.partial d)) 125 123 c.args.partial c.args.bytes.now c.requires c.args.depth (omega (arith, c.if-depth-eq0.false)) c.in_ok-members-in-Damaged.field-0 c.in_ok-members-in-Damaged.ensures.found c.in-Damaged.width c.in-Damaged.ensures.found c.in-Begun-2.is

pub object_at-returns-in-Damaged-2-clause-found : goal.object_at-returns-in-Damaged-2-clause-found
object_at-returns-in-Damaged-2-clause-found t c =
    brackets-wrong (λ d. MemberAhead (Nested c.args.partial d)) 125 123 c.args.partial c.args.bytes.now c.requires c.args.depth (omega (arith, c.if-depth-eq0.false)) c.in_ok-members-in-Damaged.field-0 c.in_ok-members-in-Damaged.ensures.found c.in-Damaged.width c.in-Damaged.ensures.found c.in-Damaged-2.width c.in-Damaged-2.is

pub object_at-returns-in-Damaged-2-clause-place : goal.object_at-returns-in-Damaged-2-clause-place
object_at-returns-in-Damaged-2-clause-place t c =
    brackets-placed c.args.bytes.now 123 c.requires c.args.depth (ObjectBreaksOff c.args.partial) (MembersIn c.args.partial (c.args.depth - 1)) 125 c.in-Damaged.width (λ r h. h) (omega (arith, c.if-depth-eq0.false)) c.in-Damaged.ensures.place c.in_ok-members-in-Damaged.field-0 c.in-Damaged-2.width c.in_ok-members-in-Damaged.ensures.place c.in-Damaged-2.is

pub elements_at-returns-in-Damaged-clause-place : goal.elements_at-returns-in-Damaged-clause-place
elements_at-returns-in-Damaged-clause-place t c =
    element-placed (Nested c.args.partial (suc c.args.depth)) 93 c.args.partial c.args.bytes.now c.loop-elements.at c.loop-elements.elements.items c.loop-elements.invariant c.in_ok-value.field-0 (BreaksOff c.args.partial c.args.depth) c.in-Damaged.width c.in_ok-value.ensures.place c.in-Damaged.is

pub elements_at-returns-in-Damaged-next_at-clause-place :
    goal.elements_at-returns-in-Damaged-next_at-clause-place
elements_at-returns-in-Damaged-next_at-clause-place t c =
    next-placed (Nested c.args.partial (suc c.args.depth)) 93 c.args.partial c.args.bytes.now c.loop-elements.at c.loop-elements.elements.items c.loop-elements.invariant c.in_ok-value.field-0 c.in_ok-value.ensures.found c.in-Whole.value c.in-Whole.width c.in-Whole.is (BreaksOff c.args.partial c.args.depth) c.in-Damaged-next_at.width c.in-Damaged-next_at.ensures

pub members_at-returns-in-Damaged-clause-place : goal.members_at-returns-in-Damaged-clause-place
members_at-returns-in-Damaged-clause-place t c =
    element-placed (MemberAhead (Nested c.args.partial (suc c.args.depth))) 125 c.args.partial c.args.bytes.now c.loop-members.at c.loop-members.members.items c.loop-members.invariant c.in_ok-member.field-0 (MemberIn c.args.partial c.args.depth) c.in-Damaged.width c.in_ok-member.ensures.place c.in-Damaged.is

pub members_at-returns-in-Damaged-next_at-clause-place :
    goal.members_at-returns-in-Damaged-next_at-clause-place
members_at-returns-in-Damaged-next_at-clause-place t c =
    next-placed (MemberAhead (Nested c.args.partial (suc c.args.depth))) 125 c.args.partial c.args.bytes.now c.loop-members.at c.loop-members.members.items c.loop-members.invariant c.in_ok-member.field-0 c.in_ok-member.ensures.found c.in-Whole.member c.in-Whole.width c.in-Whole.is (MemberIn c.args.partial c.args.depth) c.in-Damaged-next_at.width c.in-Damaged-next_at.ensures

pub member_after-returns-in-Damaged-clause-place : goal.member_after-returns-in-Damaged-clause-place
member_after-returns-in-Damaged-clause-place t c =
    let b = c.args.bytes.now in
    let p = c.args.partial in
    let start = c.args.start in
    let n = c.in-Damaged.width in
    colon-stop p (BreaksOff p c.args.depth) b c.args.name start c.requires.named n (subst (λ l. ByteIsMissing 58 l (drop n l)) (take_rest b start) c.in-Damaged.ensures.place)

pub member_after-returns-in-Damaged-2-clause-place :
    goal.member_after-returns-in-Damaged-2-clause-place
member_after-returns-in-Damaged-2-clause-place t c =
    let b = c.args.bytes.now in
    let p = c.args.partial in
    let breaks = BreaksOff p c.args.depth in
    let start = c.args.start in
    let colon = c.in-Whole.colon in
    let at = start + colon in
    let is : after_blanks (drop start b) ≡ 58 ∷ drop at b = (subst (λ l. IsByte 58 p l (Whole tt colon)) (take_rest b start) c.in-Whole.ensures.found).1 ∙ ap (λ l. 58 ∷ l) (drop-drop colon start b) in
    let n = c.in-Damaged-2.width in
    let place = placed-same breaks (take (length b - at) (drop at b)) (drop at b) c.in_ok-value-in-Whole.field-0 (Damaged n) c.in_ok-value-in-Whole.ensures.place (take_rest b at) c.in-Damaged-2.is in
    value-stop p breaks b c.args.name start c.requires.named at n is place

pub member_at-returns-in-Damaged-clause-place : goal.member_at-returns-in-Damaged-clause-place
member_at-returns-in-Damaged-clause-place t c =
    let b = c.args.bytes.now in
    let p = c.args.partial in
    let at = c.blank_count-at.result in
    let n = c.in-Damaged.width in
    let place = placed-same (StringBreaksOff p) (take (length b - at) (drop at b)) (drop at b) c.in_ok-name.field-0 (Damaged n) c.in_ok-name.ensures.place (take_rest b at) c.in-Damaged.is in
    name-stop p (BreaksOff p c.args.depth) b at n c.blank_count-at.ensures.rest place

pub value_at-returns-in-Damaged-clause-place : goal.value_at-returns-in-Damaged-clause-place
value_at-returns-in-Damaged-clause-place t c =
    let b = c.args.bytes.now in
    let p = c.args.partial in
    let at = c.blank_count-at.result in
    let n = c.in-Damaged.width in
    let place = placed-same (HereBreaksOff p c.args.depth) (take (length b - at) (drop at b)) (drop at b) c.in_ok-value.field-0 (Damaged n) c.in_ok-value.ensures.place (take_rest b at) c.in-Damaged.is in
    ahead-placed p c.args.depth b at n c.blank_count-at.ensures.rest place

pub value_here-returns-then-is_empty-clause-place : goal.value_here-returns-then-is_empty-clause-place
value_here-returns-then-is_empty-clause-place t c =
    let b = c.args.bytes.now in
    let p = c.args.partial in
    if-both c.scalar_at.result (IsFound (ValueHere p 0) p b) (IsPlaced (ScalarBreaksOff p) b) (IsPlaced (HereBreaksOff p c.args.depth) b) (here-scalar p c.args.depth b) (c.scalar_at.ensures.found 0) c.scalar_at.ensures.place

pub value_here-returns-clause-place : goal.value_here-returns-clause-place
value_here-returns-clause-place t c =
    let b = c.args.bytes.now in
    let p = c.args.partial in
    if-both c.scalar_at-2.result (IsFound (ValueHere p 0) p b) (IsPlaced (ScalarBreaksOff p) b) (IsPlaced (HereBreaksOff p c.args.depth) b) (here-scalar p c.args.depth b) (c.scalar_at-2.ensures.found 0) c.scalar_at-2.ensures.place

pub value_here-returns-in-Damaged-clause-place : goal.value_here-returns-in-Damaged-clause-place
value_here-returns-in-Damaged-clause-place t c =
    let b = c.args.bytes.now in
    let p = c.args.partial in
    here-array p c.args.depth b (drop c.in-Damaged.width b) (placed-same (ArrayBreaksOff p c.args.depth) b b c.in_ok-elements.field-0 (Damaged c.in-Damaged.width) c.in_ok-elements.ensures.place refl c.in-Damaged.is)

pub value_here-returns-in-Damaged-2-clause-place :
    goal.value_here-returns-in-Damaged-2-clause-place
value_here-returns-in-Damaged-2-clause-place t c =
    let b = c.args.bytes.now in
    let p = c.args.partial in
    here-object p c.args.depth b (drop c.in-Damaged-2.width b) (placed-same (ObjectBreaksOff p c.args.depth) b b c.in_ok-members.field-0 (Damaged c.in-Damaged-2.width) c.in_ok-members.ensures.place refl c.in-Damaged-2.is)

pub elements_at-returns-in-Begun-clause-begun : goal.elements_at-returns-in-Begun-clause-begun
elements_at-returns-in-Begun-clause-begun t c =
    element-opens (Nested c.args.partial (suc c.args.depth)) 93 c.args.partial c.args.bytes.now c.loop-elements.at c.loop-elements.elements.items c.loop-elements.invariant c.in_ok-value.field-0 (BeginsValue c.args.partial c.args.depth) c.in_ok-value.ensures.begun c.in-Begun.is

pub elements_at-returns-in-Begun-next_at-clause-begun :
    goal.elements_at-returns-in-Begun-next_at-clause-begun
elements_at-returns-in-Begun-next_at-clause-begun t c =
    next-opens (Nested c.args.partial (suc c.args.depth)) 93 c.args.partial c.args.bytes.now c.loop-elements.at c.loop-elements.elements.items c.loop-elements.invariant c.in_ok-value.field-0 c.in_ok-value.ensures.found c.in-Whole.value c.in-Whole.width c.in-Whole.is (BeginsValue c.args.partial c.args.depth) c.in-Begun-next_at.ensures

pub members_at-returns-in-Begun-clause-begun : goal.members_at-returns-in-Begun-clause-begun
members_at-returns-in-Begun-clause-begun t c =
    element-opens (MemberAhead (Nested c.args.partial (suc c.args.depth))) 125 c.args.partial c.args.bytes.now c.loop-members.at c.loop-members.members.items c.loop-members.invariant c.in_ok-member.field-0 (BeginsMemberIn c.args.partial c.args.depth) c.in_ok-member.ensures.begun c.in-Begun.is

pub members_at-returns-in-Begun-next_at-clause-begun :
    goal.members_at-returns-in-Begun-next_at-clause-begun
members_at-returns-in-Begun-next_at-clause-begun t c =
    next-opens (MemberAhead (Nested c.args.partial (suc c.args.depth))) 125 c.args.partial c.args.bytes.now c.loop-members.at c.loop-members.members.items c.loop-members.invariant c.in_ok-member.field-0 c.in_ok-member.ensures.found c.in-Whole.member c.in-Whole.width c.in-Whole.is (BeginsMemberIn c.args.partial c.args.depth) c.in-Begun-next_at.ensures

pub array_at-returns-in-Begun-clause-begun : goal.array_at-returns-in-Begun-clause-begun
array_at-returns-in-Begun-clause-begun t c =
    let b = c.args.bytes.now in
    let p = c.args.partial in
    array-waits p c.args.depth b c.requires (subst (λ l. IsByte 93 p l Begun) (take_rest b 1) c.in-Begun.ensures.found).1

pub array_at-returns-in-Begun-2-clause-begun : goal.array_at-returns-in-Begun-2-clause-begun
array_at-returns-in-Begun-2-clause-begun t c =
    brackets-opens c.args.bytes.now 91 c.requires c.args.depth (BeginsArray c.args.partial) (BeginsElementsIn c.args.partial (c.args.depth - 1)) (λ h. h) (omega (arith, c.if-depth-eq0.false)) c.in_ok-elements-in-Damaged.field-0 c.in_ok-elements-in-Damaged.ensures.begun c.in-Begun-2.is

pub object_at-returns-in-Begun-clause-begun : goal.object_at-returns-in-Begun-clause-begun
object_at-returns-in-Begun-clause-begun t c =
    let b = c.args.bytes.now in
    let p = c.args.partial in
    object-waits p c.args.depth b c.requires (subst (λ l. IsByte 125 p l Begun) (take_rest b 1) c.in-Begun.ensures.found).1

pub object_at-returns-in-Begun-2-clause-begun : goal.object_at-returns-in-Begun-2-clause-begun
object_at-returns-in-Begun-2-clause-begun t c =
    brackets-opens c.args.bytes.now 123 c.requires c.args.depth (BeginsObject c.args.partial) (BeginsMembersIn c.args.partial (c.args.depth - 1)) (λ h. h) (omega (arith, c.if-depth-eq0.false)) c.in_ok-members-in-Damaged.field-0 c.in_ok-members-in-Damaged.ensures.begun c.in-Begun-2.is

pub member_after-returns-in-Begun-clause-begun : goal.member_after-returns-in-Begun-clause-begun
member_after-returns-in-Begun-clause-begun t c =
    let b = c.args.bytes.now in
    let p = c.args.partial in
    let start = c.args.start in
    name-waits p (BeginsValue p c.args.depth) b c.args.name start c.requires.named (subst (λ l. IsByte 58 p l Begun) (take_rest b start) c.in-Begun.ensures.found).1

pub member_after-returns-in-Begun-2-clause-begun : goal.member_after-returns-in-Begun-2-clause-begun
member_after-returns-in-Begun-2-clause-begun t c =
    let b = c.args.bytes.now in
    let p = c.args.partial in
    let begins = BeginsValue p c.args.depth in
    let start = c.args.start in
    let colon = c.in-Whole.colon in
    let at = start + colon in
    let is : after_blanks (drop start b) ≡ 58 ∷ drop at b = (subst (λ l. IsByte 58 p l (Whole tt colon)) (take_rest b start) c.in-Whole.ensures.found).1 ∙ ap (λ l. 58 ∷ l) (drop-drop colon start b) in
    let begun = open-same begins (take (length b - at) (drop at b)) (drop at b) c.in_ok-value-in-Whole.field-0 Begun c.in_ok-value-in-Whole.ensures.begun (take_rest b at) c.in-Begun-2.is in
    value-begins p begins b c.args.name start c.requires.named at is begun

pub member_at-returns-in-Begun-clause-begun : goal.member_at-returns-in-Begun-clause-begun
member_at-returns-in-Begun-clause-begun t c =
    let b = c.args.bytes.now in
    let at = c.blank_count-at.result in
    let begun = open-same IsBegun (take (length b - at) (drop at b)) (drop at b) c.in_ok-name.field-0 Begun c.in_ok-name.ensures.begun (take_rest b at) c.in-Begun.is in
    inl (subst IsBegun c.blank_count-at.ensures.rest begun)

pub value_at-returns-in-Begun-clause-begun : goal.value_at-returns-in-Begun-clause-begun
value_at-returns-in-Begun-clause-begun t c =
    let b = c.args.bytes.now in
    let p = c.args.partial in
    let at = c.blank_count-at.result in
    let begun = open-same (BeginsHere p c.args.depth) (take (length b - at) (drop at b)) (drop at b) c.in_ok-value.field-0 Begun c.in_ok-value.ensures.begun (take_rest b at) c.in-Begun.is in
    subst (BeginsHere p c.args.depth) c.blank_count-at.ensures.rest begun

pub value_here-returns-then-is_empty-clause-begun :
    goal.value_here-returns-then-is_empty-clause-begun
value_here-returns-then-is_empty-clause-begun t c =
    let b = c.args.bytes.now in
    let p = c.args.partial in
    IfOk-weaker c.scalar_at.result (IsOpen BeginsScalar b) (IsOpen (BeginsHere p c.args.depth) b) (open-as BeginsScalar (BeginsHere p c.args.depth) b (here-begins-scalar p c.args.depth b)) c.scalar_at.ensures.begun

pub value_here-returns-clause-begun : goal.value_here-returns-clause-begun
value_here-returns-clause-begun t c =
    let b = c.args.bytes.now in
    let p = c.args.partial in
    IfOk-weaker c.scalar_at-2.result (IsOpen BeginsScalar b) (IsOpen (BeginsHere p c.args.depth) b) (open-as BeginsScalar (BeginsHere p c.args.depth) b (here-begins-scalar p c.args.depth b)) c.scalar_at-2.ensures.begun

pub value_here-returns-in-Begun-clause-begun : goal.value_here-returns-in-Begun-clause-begun
value_here-returns-in-Begun-clause-begun t c =
    let b = c.args.bytes.now in
    let p = c.args.partial in
    here-begins-array p c.args.depth b (open-same (BeginsArray p c.args.depth) b b c.in_ok-elements.field-0 Begun c.in_ok-elements.ensures.begun refl c.in-Begun.is)

pub value_here-returns-in-Begun-2-clause-begun : goal.value_here-returns-in-Begun-2-clause-begun
value_here-returns-in-Begun-2-clause-begun t c =
    let b = c.args.bytes.now in
    let p = c.args.partial in
    here-begins-object p c.args.depth b (open-same (BeginsObject p c.args.depth) b b c.in_ok-members.field-0 Begun c.in_ok-members.ensures.begun refl c.in-Begun-2.is)

pub member_at-member_after-requires : goal.member_at-member_after-requires
member_at-member_after-requires t c =
    let b = c.args.bytes.now in
    let at = c.blank_count-at.result in
    let name = c.in-Whole.name in
    let n = c.in-Whole.width in
    let found = found-same StringHere c.args.partial (take (length b - at) (drop at b)) (drop at b) c.in_ok-name.field-0 (Whole name n) c.in_ok-name.ensures.found (take_rest b at) c.in-Whole.is in
    (search rules, (fits-both b at n c.blank_count-at.ensures.within found.0, subst (λ l. StringHere name l (drop (at + n) b)) c.blank_count-at.ensures.rest (subst (StringHere name (drop at b)) (drop-drop n at b) found.1)))
