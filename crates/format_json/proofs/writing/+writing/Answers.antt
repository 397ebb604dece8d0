use Rattle.std.proofs.Common.{suc, ◌-◌, ◌<◌, ◌++◌, ◌∷◌, length, take, drop, Ok, Err, refl, ap, sym, ◌∙◌, subst, arith}
use Rattle.std.specs.List.{All, flat_map}
use Rattle.std.proofs.lemmas.Bool.Decides.{nat_tests}
use Rattle.std.proofs.lemmas.List.{take_all, take_rest}
use Rattle.std.proofs.lemmas.List.Elements.{All-more}
use Rattle.format_json.specs.Language.{Nested, MemberAhead, ValueAhead}
use Rattle.format_json_scalars.specs.Quoting.{written_string}
use Rattle.format_json.specs.Writing.{written}
use Rattle.format_json.specs.Appending.{ArrayHere, array_text, ObjectHere, object_text, MemberHere, member_text, Stands, IsAppended}
use Rattle.format_json.proofs.lemmas.WritingLemmas.{list-appended, list-refused, more-listed, string-appended, number-refused, array-appended, object-appended, member-appended, passed-on, after-first}
use Rattle.format_json.proofs.writing.+writing.Goals as goal

pub append_array-returns-in_err-append_value : goal.append_array-returns-in_err-append_value
append_array-returns-in_err-append_value t c =
    let values = c.args.values.now in
    let x = c.index-values-0.result in
    let some : 0 < length values = grind (arith, nat_tests, c.is_empty.ensures, c.if-is_empty.false) in
    let why = c.in_err-append_value.field-0.0 in
    passed-on (IsAppended ArrayHere array_text c.args.depth values c.args.bytes.now.items c.append_value.new.bytes.items) c.from_residual-in_err-append_value.result why c.from_residual-in_err-append_value.ensures.1
    (list-refused Nested written 91 93 refl refl (λ p x b r h. h) c.args.depth (c.args.depth - 1) (omega arith) values values refl 0 x some c.index-values-0.is c.extend_from_slice-2.new.self.items c.append_value.new.bytes.items c.args.bytes.now.items c.append_value.new.bytes.items why c.in_err-append_value.ensures)

pub append_array-returns-in_err-append_value-2 : goal.append_array-returns-in_err-append_value-2
append_array-returns-in_err-append_value-2 t c =
    let values = c.args.values.now in
    let first = c.index-values-0.result in
    let rest = take (length values - 1) (drop 1 values) in
    let i = c.loop-value.value-index in
    let x = c.value-item.result in
    let some : 0 < length values = grind (arith, nat_tests, c.is_empty.ensures, c.if-is_empty.false) in
    let split = after-first values first some c.index-values-0.is ∙ ap (λ l. first ∷ l) (sym (take_rest values 1)) in
    let why = c.in_err-append_value-2.field-0.0 in
    let new = c.append_value-in-loop-value.new.bytes.items in
    passed-on (IsAppended ArrayHere array_text c.args.depth values c.args.bytes.now.items new) c.from_residual-in_err-append_value-2.result why c.from_residual-in_err-append_value-2.ensures.1
    (list-refused Nested written 91 93 refl refl (λ p x b r h. h) c.args.depth (c.args.depth - 1) (omega arith) values (first ∷ rest) split (suc i) x (omega (arith, c.loop-value-test.true)) c.value-item.is c.extend_from_slice-in-loop-value.new.self.items new c.args.bytes.now.items new why c.in_err-append_value-2.ensures)

pub append_array-loop-value-preserved : goal.append_array-loop-value-preserved
append_array-loop-value-preserved t c =
    let rest = take (length c.args.values.now - 1) (drop 1 c.args.values.now) in
    let i = c.loop-value.value-index in
    let x = c.value-item.result in
    let one = c.in_ok-append_value-2.ensures in
    let far = c.loop-value.invariant in (
      more-listed written rest i x (omega (arith, c.loop-value-test.true)) c.value-item.is c.append_value.new.bytes.items c.loop-value.bytes.items c.extend_from_slice-in-loop-value.new.self.items c.append_value-in-loop-value.new.bytes.items far.0 c.in_ok-extend_from_slice-3.ensures.items one.0,
      All-more (Stands ValueAhead written (c.args.depth - 1)) rest i x (omega (arith, c.loop-value-test.true)) far.1 (subst (Stands ValueAhead written (c.args.depth - 1)) c.value-item.is one.1),
    )

pub append_array-returns : goal.append_array-returns
append_array-returns t c =
    let values = c.args.values.now in
    let first = c.index-values-0.result in
    let rest = take (length values - 1) (drop 1 values) in
    let i = c.loop-value.value-index in
    let some : 0 < length values = grind (arith, nat_tests, c.is_empty.ensures, c.if-is_empty.false) in
    let split = after-first values first some c.index-values-0.is ∙ ap (λ l. first ∷ l) (sym (take_rest values 1)) in
    let all = take_all i rest c.loop-value-test.false in
    let far = c.loop-value.invariant in
    list-appended Nested written 91 93 refl refl (λ p x b r h. h) c.args.depth (c.args.depth - 1) (omega arith) values first rest split c.args.bytes.now.items c.extend_from_slice-2.new.self.items c.append_value.new.bytes.items c.loop-value.bytes.items c.extend_from_slice-3.new.self.items c.in_ok-extend_from_slice-2.ensures.items c.in_ok-append_value.ensures
    (far.0 ∙ ap (λ l. c.append_value.new.bytes.items ++ flat_map (λ y. 44 ∷ written y) l) all)
    (subst (All (Stands ValueAhead written (c.args.depth - 1))) all far.1)
    c.in_ok-extend_from_slice-4.ensures.items

pub append_object-returns-in_err-append_member : goal.append_object-returns-in_err-append_member
append_object-returns-in_err-append_member t c =
    let values = c.args.members.now in
    let x = c.index-members-0.result in
    let some : 0 < length values = grind (arith, nat_tests, c.is_empty.ensures, c.if-is_empty.false) in
    let why = c.in_err-append_member.field-0.0 in
    passed-on (IsAppended ObjectHere object_text c.args.depth values c.args.bytes.now.items c.append_member.new.bytes.items) c.from_residual-in_err-append_member.result why c.from_residual-in_err-append_member.ensures.1
    (list-refused (λ p d. MemberAhead (Nested p d)) member_text 123 125 refl refl (λ p x b r h. h.1.1.2) c.args.depth (c.args.depth - 1) (omega arith) values values refl 0 x some c.index-members-0.is c.extend_from_slice-2.new.self.items c.append_member.new.bytes.items c.args.bytes.now.items c.append_member.new.bytes.items why c.in_err-append_member.ensures)

pub append_object-returns-in_err-append_member-2 : goal.append_object-returns-in_err-append_member-2
append_object-returns-in_err-append_member-2 t c =
    let values = c.args.members.now in
    let first = c.index-members-0.result in
    let rest = take (length values - 1) (drop 1 values) in
    let i = c.loop-member.member-index in
    let x = c.member-item.result in
    let some : 0 < length values = grind (arith, nat_tests, c.is_empty.ensures, c.if-is_empty.false) in
    let split = after-first values first some c.index-members-0.is ∙ ap (λ l. first ∷ l) (sym (take_rest values 1)) in
    let why = c.in_err-append_member-2.field-0.0 in
    let new = c.append_member-in-loop-member.new.bytes.items in
    passed-on (IsAppended ObjectHere object_text c.args.depth values c.args.bytes.now.items new) c.from_residual-in_err-append_member-2.result why c.from_residual-in_err-append_member-2.ensures.1
    (list-refused (λ p d. MemberAhead (Nested p d)) member_text 123 125 refl refl (λ p x b r h. h.1.1.2) c.args.depth (c.args.depth - 1) (omega arith) values (first ∷ rest) split (suc i) x (omega (arith, c.loop-member-test.true)) c.member-item.is c.extend_from_slice-in-loop-member.new.self.items new c.args.bytes.now.items new why c.in_err-append_member-2.ensures)

pub append_object-loop-member-preserved : goal.append_object-loop-member-preserved
append_object-loop-member-preserved t c =
    let rest = take (length c.args.members.now - 1) (drop 1 c.args.members.now) in
    let i = c.loop-member.member-index in
    let x = c.member-item.result in
    let one = c.in_ok-append_member-2.ensures in
    let far = c.loop-member.invariant in (
      more-listed member_text rest i x (omega (arith, c.loop-member-test.true)) c.member-item.is c.append_member.new.bytes.items c.loop-member.bytes.items c.extend_from_slice-in-loop-member.new.self.items c.append_member-in-loop-member.new.bytes.items far.0 c.in_ok-extend_from_slice-3.ensures.items one.0,
      All-more (Stands MemberHere member_text (c.args.depth - 1)) rest i x (omega (arith, c.loop-member-test.true)) far.1 (subst (Stands MemberHere member_text (c.args.depth - 1)) c.member-item.is one.1),
    )

pub append_object-returns : goal.append_object-returns
append_object-returns t c =
    let values = c.args.members.now in
    let first = c.index-members-0.result in
    let rest = take (length values - 1) (drop 1 values) in
    let i = c.loop-member.member-index in
    let some : 0 < length values = grind (arith, nat_tests, c.is_empty.ensures, c.if-is_empty.false) in
    let split = after-first values first some c.index-members-0.is ∙ ap (λ l. first ∷ l) (sym (take_rest values 1)) in
    let all = take_all i rest c.loop-member-test.false in
    let far = c.loop-member.invariant in
    list-appended (λ p d. MemberAhead (Nested p d)) member_text 123 125 refl refl (λ p x b r h. h.1.1.2) c.args.depth (c.args.depth - 1) (omega arith) values first rest split c.args.bytes.now.items c.extend_from_slice-2.new.self.items c.append_member.new.bytes.items c.loop-member.bytes.items c.extend_from_slice-3.new.self.items c.in_ok-extend_from_slice-2.ensures.items c.in_ok-append_member.ensures
    (far.0 ∙ ap (λ l. c.append_member.new.bytes.items ++ flat_map (λ y. 44 ∷ member_text y) l) all)
    (subst (All (Stands MemberHere member_text (c.args.depth - 1))) all far.1)
    c.in_ok-extend_from_slice-4.ensures.items

pub append_member-returns : goal.append_member-returns
append_member-returns t c =
    member-appended c.args.depth c.args.member.now c.args.bytes.now.items c.append_string.new.bytes.items c.extend_from_slice.new.self.items c.append_value.new.bytes.items (c.in_ok-append_string.ensures.written ∙ ap (λ l. c.args.bytes.now.items ++ written_string l) c.deref.ensures) c.in_ok-extend_from_slice.ensures.items c.in_ok-append_value.ensures

pub append_value-returns-in_err-append_number-in-Number :
    goal.append_value-returns-in_err-append_number-in-Number
append_value-returns-in_err-append_number-in-Number t c =
    let value = c.args.value.now in
    let old = c.args.bytes.now.items in
    let new = c.append_number.new.bytes.items in
    let why = c.in_err-append_number-in-Number.field-0.0 in
    passed-on (IsAppended ValueAhead written c.args.depth value old new) c.from_residual-in_err-append_number-in-Number.result why c.from_residual-in_err-append_number-in-Number.ensures.1
    (number-refused c.args.depth value c.in-Number.number c.in-Number.is old new why c.in_err-append_number-in-Number.ensures)

pub append_value-returns-in_err-append_array-in-Array :
    goal.append_value-returns-in_err-append_array-in-Array
append_value-returns-in_err-append_array-in-Array t c =
    let value = c.args.value.now in
    let old = c.args.bytes.now.items in
    let new = c.append_array.new.bytes.items in
    let why = c.in_err-append_array-in-Array.field-0.0 in
    passed-on (IsAppended ValueAhead written c.args.depth value old new) c.from_residual-in_err-append_array-in-Array.result why c.from_residual-in_err-append_array-in-Array.ensures.1
    (array-appended c.args.depth value c.in-Array.values c.in-Array.is c.deref-in-Array.result.now c.deref-in-Array.ensures.value old new (Err why) c.in_err-append_array-in-Array.ensures)

pub append_value-returns-in_err-append_object-in-Object :
    goal.append_value-returns-in_err-append_object-in-Object
append_value-returns-in_err-append_object-in-Object t c =
    let value = c.args.value.now in
    let old = c.args.bytes.now.items in
    let new = c.append_object.new.bytes.items in
    let why = c.in_err-append_object-in-Object.field-0.0 in
    passed-on (IsAppended ValueAhead written c.args.depth value old new) c.from_residual-in_err-append_object-in-Object.result why c.from_residual-in_err-append_object-in-Object.ensures.1
    (object-appended c.args.depth value c.in-Object.members c.in-Object.is c.deref-in-Object.result.now c.deref-in-Object.ensures.value old new (Err why) c.in_err-append_object-in-Object.ensures)

pub append_value-returns-in_ok-append_string-in-String :
    goal.append_value-returns-in_ok-append_string-in-String
append_value-returns-in_ok-append_string-in-String t c =
    string-appended c.args.depth c.args.value.now c.in-String.text c.in-String.is c.args.bytes.now.items c.append_string.new.bytes.items
    (c.in_ok-append_string-in-String.ensures.written ∙ ap (λ l. c.args.bytes.now.items ++ written_string l) c.deref.ensures)

pub append_value-returns-in_ok-append_array-in-Array :
    goal.append_value-returns-in_ok-append_array-in-Array
append_value-returns-in_ok-append_array-in-Array t c =
    array-appended c.args.depth c.args.value.now c.in-Array.values c.in-Array.is c.deref-in-Array.result.now c.deref-in-Array.ensures.value c.args.bytes.now.items c.append_array.new.bytes.items (Ok tt) c.in_ok-append_array-in-Array.ensures

pub append_value-returns-in_ok-append_object-in-Object :
    goal.append_value-returns-in_ok-append_object-in-Object
append_value-returns-in_ok-append_object-in-Object t c =
    object-appended c.args.depth c.args.value.now c.in-Object.members c.in-Object.is c.deref-in-Object.result.now c.deref-in-Object.ensures.value c.args.bytes.now.items c.append_object.new.bytes.items (Ok tt) c.in_ok-append_object-in-Object.ensures
