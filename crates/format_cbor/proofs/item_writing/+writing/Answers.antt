use Rattle.std.proofs.Common.{◌≡◌, ◌<◌, ◌+◌, ◌-◌, ◌∷◌, [], ◌++◌, suc, Ok, Err, length, take, refl, ap, sym, ◌∙◌, subst, arith, append_assoc}
use Rattle.std.specs.Prelude.{box_value}
use Rattle.std.proofs.lemmas.Bool.Decides.{nat_tests}
use Rattle.std.proofs.lemmas.List.{take_more, take_all}
use Rattle.winnow_codec.specs.Lists.{SpellsEach}
use Rattle.winnow_codec.specs.Writing.{Writes}
use Rattle.winnow_codec.proofs.lemmas.Lists.{each-more, items-unwritten}
use Rattle.format_cbor.specs.Heads.{SpellsHead}
use Rattle.format_cbor.specs.Entries.{IsBefore, SpellsEntries, SpellsValue}
use Rattle.format_cbor.specs.Scalars.{head_of, SpellsBody}
use Rattle.format_cbor.specs.Items.{SpellsWithin, SpellsItem}
use Rattle.format_cbor.specs.ItemLaws.{IsFormat-Within}
use Rattle.format_cbor.specs.Items.{AreSameWithin}
use Rattle.format_cbor.specs.declared.item.Item.TheOpen as open_item
use Rattle.format_cbor.specs.declared.item.Item.TheViews.{out-Item}
use Rattle.format_cbor.proofs.lemmas.EntryReading.{Run, run-spelled, run-entry, entry-keyless, entry-before, entry-written, value-written, value-unwritten, entries-unwritten}
use Rattle.format_cbor.proofs.lemmas.ItemReading.{layer-written, out-scalar, out-array, out-map, out-tagged}
use Rattle.format_cbor.proofs.lemmas.ItemWriting.{within-none, within-written, item-headless, item-whole, item-bodiless}
use Rattle.format_cbor.proofs.item_writing.+writing.Goals as goal

-- ---- An item

pub write_within-returns-then-depth-eq0 : goal.write_within-returns-then-depth-eq0
write_within-returns-then-depth-eq0 t c =
    let none : c.args.depth ≡ 0 = grind (arith, nat_tests, c.if-depth-eq0.true) in
    (within-none c.args.longest c.args.depth none c.args.item.now, refl)

pub write_within-returns-in-Ok : goal.write_within-returns-in-Ok
write_within-returns-in-Ok t c =
    let above : c.args.depth ≡ suc (c.args.depth - 1) = grind (arith, nat_tests, c.if-depth-eq0.false) in
    within-written c.args.longest c.args.depth (c.args.depth - 1) above c.args.item.now c.args.bytes.now.items c.write_item.new.bytes.items (Ok tt) c.in-Ok.ensures

pub write_within-returns-in-Err : goal.write_within-returns-in-Err
write_within-returns-in-Err t c =
    let above : c.args.depth ≡ suc (c.args.depth - 1) = grind (arith, nat_tests, c.if-depth-eq0.false) in
    within-written c.args.longest c.args.depth (c.args.depth - 1) above c.args.item.now c.args.bytes.now.items c.write_item.new.bytes.items (Err c.in-Err.unwritten) c.in-Err.ensures

pub write_item-returns-in-Err : goal.write_item-returns-in-Err
write_item-returns-in-Err t c =
    let inner = SpellsWithin c.args.longest c.args.depth in
    item-headless c.args.longest inner c.args.item.now c.args.bytes.now.items [] c.write.new.bytes.items c.in-Err.unwritten
    (subst (λ h. Writes SpellsHead h c.args.bytes.now.items (Err c.in-Err.unwritten) c.write.new.bytes.items) c.item_head.ensures c.in-Err.ensures)

pub write_item-returns-in-Ok-write_contents : goal.write_item-returns-in-Ok-write_contents
write_item-returns-in-Ok-write_contents t c =
    let inner = SpellsWithin c.args.longest c.args.depth in
    item-whole c.args.longest inner c.args.item.now c.args.bytes.now.items c.write.new.bytes.items c.write_contents.new.bytes.items
    (subst (λ h. Writes SpellsHead h c.args.bytes.now.items (Ok tt) c.write.new.bytes.items) c.item_head.ensures c.in-Ok.ensures) c.in-Ok-write_contents.ensures

pub write_item-returns-in-Err-write_contents : goal.write_item-returns-in-Err-write_contents
write_item-returns-in-Err-write_contents t c =
    let inner = SpellsWithin c.args.longest c.args.depth in
    let old = c.args.bytes.now.items in
    let cut : c.truncate.new.self.items ≡ take (length old) c.write_contents.new.bytes.items = c.truncate.ensures.items ∙ ap (λ n. take n c.write_contents.new.bytes.items) (c.len-start.ensures ∙ c.args.bytes.now.ok.0) in
    subst (Writes (SpellsItem c.args.longest c.args.depth) c.args.item.now old (Err c.in-Err-write_contents.unwritten)) (sym cut)
    (item-bodiless c.args.longest inner c.args.item.now old c.write.new.bytes.items c.write_contents.new.bytes.items c.in-Err-write_contents.unwritten
    (subst (λ h. Writes SpellsHead h c.args.bytes.now.items (Ok tt) c.write.new.bytes.items) c.item_head.ensures c.in-Ok.ensures) c.in-Err-write_contents.ensures)

pub write_contents-returns-in-Scalar : goal.write_contents-returns-in-Scalar
write_contents-returns-in-Scalar t c =
    let s = c.in-Scalar.scalar in
    layer-written c.args.longest (SpellsWithin c.args.longest c.args.depth) c.args.item.now (open_item.Scalar s) (ap out-Item c.in-Scalar.is ∙ out-scalar s)
    (SpellsBody c.args.longest (head_of s)) s (λ b k. (k.1, k.2)) (λ b k. (refl, k.0, k.1))
    c.args.bytes.now.items c.write_body.new.bytes.items c.write_body.result c.write_body.ensures

pub write_contents-returns-in-Array : goal.write_contents-returns-in-Array
write_contents-returns-in-Array t c =
    let inner = SpellsWithin c.args.longest c.args.depth in
    let vs = c.in-Array.items in
    layer-written c.args.longest inner c.args.item.now (open_item.Array vs) (ap out-Item c.in-Array.is ∙ out-array vs)
    (SpellsEach inner) vs.items (λ b k. k) (λ b k. k)
    c.args.bytes.now.items c.write_items.new.bytes.items c.write_items.result (rw c.deref.ensures.value at c.write_items.ensures)

pub write_contents-returns-in-Map : goal.write_contents-returns-in-Map
write_contents-returns-in-Map t c =
    let inner = SpellsWithin c.args.longest c.args.depth in
    let es = c.in-Map.entries in
    layer-written c.args.longest inner c.args.item.now (open_item.Map es) (ap out-Item c.in-Map.is ∙ out-map es)
    (SpellsEntries inner []) es.items (λ b k. k) (λ b k. k)
    c.args.bytes.now.items c.write_entries.new.bytes.items c.write_entries.result (rw c.deref-in-Map.ensures.value at c.write_entries.ensures)

pub write_contents-returns-in-Tagged : goal.write_contents-returns-in-Tagged
write_contents-returns-in-Tagged t c =
    let inner = SpellsWithin c.args.longest c.args.depth in
    let x = c.in-Tagged.tagged in
    layer-written c.args.longest inner c.args.item.now (open_item.Tagged c.in-Tagged.field-0 x) (ap out-Item c.in-Tagged.is ∙ out-tagged c.in-Tagged.field-0 x)
    inner (box_value x) (λ b k. k) (λ b k. k)
    c.args.bytes.now.items c.write_within.new.bytes.items c.write_within.result (rw c.deref-in-Tagged.ensures at c.write_within.ensures)

-- ---- Items

pub write_items-loop-item-preserved : goal.write_items-loop-item-preserved
write_items-loop-item-preserved t c =
    let inner = SpellsWithin c.args.longest c.args.depth in
    let values = c.args.items.now in
    let i = c.loop-item.item-index in
    let value = c.item-item.result in
    let so_far = c.loop-item.invariant in
    let one = c.in-Ok.ensures in
    let within : i < length values = omega arith in
    let more : take (i + 1) values ≡ take i values ++ value ∷ [] = take_more values i value within ∙ ap (λ v. take i values ++ v ∷ []) (sym c.item-item.is) in (
      so_far.0 ++ one.0,
      (
        subst (λ vs. SpellsEach inner vs (so_far.0 ++ one.0)) (sym more) (each-more inner (take i values) value so_far.0 one.0 so_far.1.0 one.1.0),
        one.1.1 ∙ ap (λ l. l ++ one.0) so_far.1.1 ∙ append_assoc c.args.bytes.now.items so_far.0 one.0,
      ),
    )

pub write_items-returns-in-Err : goal.write_items-returns-in-Err
write_items-returns-in-Err t c =
    let inner = SpellsWithin c.args.longest c.args.depth in
    let values = c.args.items.now in
    let i = c.loop-item.item-index in
    let value = c.item-item.result in
    let old = c.args.bytes.now.items in
    let within : i < length values = omega arith in
    let cut : c.truncate.new.self.items ≡ take (length old) c.write_within.new.bytes.items = c.truncate.ensures.items ∙ ap (λ n. take n c.write_within.new.bytes.items) (c.len-start.ensures ∙ c.args.bytes.now.ok.0) in
    subst (Writes (SpellsEach inner) values old (Err c.in-Err.unwritten)) (sym cut)
    (items-unwritten inner values i value old c.loop-item.bytes.items c.write_within.new.bytes.items c.loop-item.invariant.0 c.in-Err.unwritten within c.item-item.is c.loop-item.invariant.1.1 c.in-Err.ensures)

-- ---- Entries

pub write_entries-loop-entry-preserved : goal.write_entries-loop-entry-preserved
write_entries-loop-entry-preserved t c =
    let inner = SpellsWithin c.args.longest c.args.depth in
    let entries = c.args.entries.now in
    let i = c.loop-entry.entry-index in
    let entry = c.entry-item.result in
    let so_far = c.loop-entry.invariant in
    let one = c.in-Ok.ensures.written in
    let within : i < length entries = omega arith in
    let more : take (i + 1) entries ≡ take i entries ++ entry ∷ [] = take_more entries i entry within ∙ ap (λ v. take i entries ++ v ∷ []) (sym c.entry-item.is) in (
      so_far.0 ++ one.0,
      (
        subst (λ es. Run inner [] es c.write_entry.new.last.items (so_far.0 ++ one.0)) (sym more)
            (run-entry inner (AreSameWithin c.args.depth) (IsFormat-Within c.args.longest c.args.depth) (take i entries) [] c.loop-entry.last.items so_far.0 entry c.write_entry.new.last.items one.0 so_far.1.0 one.1.0 c.in-Ok.ensures.spelling),
        one.1.1 ∙ ap (λ l. l ++ one.0) so_far.1.1 ∙ append_assoc c.args.bytes.now.items so_far.0 one.0,
      ),
    )

pub write_entries-returns-in-Err : goal.write_entries-returns-in-Err
write_entries-returns-in-Err t c =
    let inner = SpellsWithin c.args.longest c.args.depth in
    let entries = c.args.entries.now in
    let i = c.loop-entry.entry-index in
    let entry = c.entry-item.result in
    let old = c.args.bytes.now.items in
    let within : i < length entries = omega arith in
    let cut : c.truncate.new.self.items ≡ take (length old) c.write_entry.new.bytes.items = c.truncate.ensures.items ∙ ap (λ n. take n c.write_entry.new.bytes.items) (c.len-start.ensures ∙ c.args.bytes.now.ok.0) in
    subst (Writes (SpellsEntries inner []) entries old (Err c.in-Err.unwritten)) (sym cut)
    (entries-unwritten inner (AreSameWithin c.args.depth) (IsFormat-Within c.args.longest c.args.depth) entries i entry old c.loop-entry.bytes.items c.write_entry.new.bytes.items c.loop-entry.invariant.0 c.loop-entry.last.items c.in-Err.unwritten within c.entry-item.is c.loop-entry.invariant.1.0 c.loop-entry.invariant.1.1 c.in-Err.ensures.written)

pub write_entries-returns : goal.write_entries-returns
write_entries-returns t c =
    let inner = SpellsWithin c.args.longest c.args.depth in
    let entries = c.args.entries.now in
    let so_far = c.loop-entry.invariant in
    let all = take_all c.loop-entry.entry-index entries c.loop-entry-test.false in
    (so_far.0, (subst (λ es. SpellsEntries inner [] es so_far.0) all (run-spelled inner (take c.loop-entry.entry-index entries) [] c.loop-entry.last.items so_far.0 so_far.1.0), so_far.1.1))

-- ---- An entry

pub write_entry-returns-in-Err-clause-written : goal.write_entry-returns-in-Err-clause-written
write_entry-returns-in-Err-clause-written t c =
    let inner = SpellsWithin c.args.longest c.args.depth in
    entry-keyless inner (AreSameWithin c.args.depth) (IsFormat-Within c.args.longest c.args.depth) c.args.last.now.items c.args.entry.now c.args.bytes.now.items c.args.bytes.now.items c.write_within.new.bytes.items c.in-Err.unwritten
    (subst (λ l. Writes inner c.args.entry.now.0 l (Err c.in-Err.unwritten) c.write_within.new.bytes.items) c.new-key.ensures.items c.in-Err.ensures) refl

pub write_entry-returns-then-not-is_before-clause-written :
    goal.write_entry-returns-then-not-is_before-clause-written
write_entry-returns-then-not-is_before-clause-written t c =
    let inner = SpellsWithin c.args.longest c.args.depth in
    let key = c.write_within.new.bytes.items in
    let spelled : inner c.args.entry.now.0 key = subst (inner c.args.entry.now.0) (sym (c.in-Ok.ensures.1.1 ∙ ap (λ l. l ++ c.in-Ok.ensures.0) c.new-key.ensures.items)) c.in-Ok.ensures.1.0 in
    entry-before inner (AreSameWithin c.args.depth) (IsFormat-Within c.args.longest c.args.depth) c.args.last.now.items key c.args.entry.now c.args.bytes.now.items c.args.bytes.now.items
    spelled (λ b.
    let there : IsBefore c.deref.result.now c.deref-2.result.now = subst (λ l. IsBefore l c.deref-2.result.now) (sym c.deref.ensures.value) (subst (IsBefore c.args.last.now.items) (sym c.deref-2.ensures.value) b) in
    let yes = c.is_before.ensures.1 there in let no = c.if-not-is_before.true in absurd (cc)) refl

pub write_entry-returns-in-Err-write_value-clause-written :
    goal.write_entry-returns-in-Err-write_value-clause-written
write_entry-returns-in-Err-write_value-clause-written t c =
    let inner = SpellsWithin c.args.longest c.args.depth in
    let key = c.write_within.new.bytes.items in
    let spelled : inner c.args.entry.now.0 key = subst (inner c.args.entry.now.0) (sym (c.in-Ok.ensures.1.1 ∙ ap (λ l. l ++ c.in-Ok.ensures.0) c.new-key.ensures.items)) c.in-Ok.ensures.1.0 in
    let there : IsBefore c.deref.result.now c.deref-2.result.now = c.is_before.ensures.0 c.if-not-is_before.false in
    let is : IsBefore c.args.last.now.items key = subst (λ l. IsBefore l key) c.deref.ensures.value (subst (IsBefore c.deref.result.now) c.deref-2.ensures.value there) in
    entry-written inner (AreSameWithin c.args.depth) (IsFormat-Within c.args.longest c.args.depth) c.args.last.now.items key c.args.entry.now c.args.bytes.now.items c.write_value.new.bytes.items
    (Err c.in-Err-write_value.unwritten) spelled is (subst (λ l. Writes (SpellsValue inner l) c.args.entry.now.1 c.args.bytes.now.items (Err c.in-Err-write_value.unwritten) c.write_value.new.bytes.items) c.deref-3.ensures.value c.in-Err-write_value.ensures)

pub write_entry-returns-clause-written : goal.write_entry-returns-clause-written
write_entry-returns-clause-written t c =
    let inner = SpellsWithin c.args.longest c.args.depth in
    let key = c.write_within.new.bytes.items in
    let spelled : inner c.args.entry.now.0 key = subst (inner c.args.entry.now.0) (sym (c.in-Ok.ensures.1.1 ∙ ap (λ l. l ++ c.in-Ok.ensures.0) c.new-key.ensures.items)) c.in-Ok.ensures.1.0 in
    let there : IsBefore c.deref.result.now c.deref-2.result.now = c.is_before.ensures.0 c.if-not-is_before.false in
    let is : IsBefore c.args.last.now.items key = subst (λ l. IsBefore l key) c.deref.ensures.value (subst (IsBefore c.deref.result.now) c.deref-2.ensures.value there) in
    entry-written inner (AreSameWithin c.args.depth) (IsFormat-Within c.args.longest c.args.depth) c.args.last.now.items key c.args.entry.now c.args.bytes.now.items c.write_value.new.bytes.items
    (Ok tt) spelled is (rw c.deref-3.ensures.value at c.in-Ok-write_value.ensures)

pub write_entry-returns-clause-spelling : goal.write_entry-returns-clause-spelling
write_entry-returns-clause-spelling t c =
    let inner = SpellsWithin c.args.longest c.args.depth in
    subst (inner c.args.entry.now.0) (sym (c.in-Ok.ensures.1.1 ∙ ap (λ l. l ++ c.in-Ok.ensures.0) c.new-key.ensures.items)) c.in-Ok.ensures.1.0

pub write_value-returns-in-Ok-write_within : goal.write_value-returns-in-Ok-write_within
write_value-returns-in-Ok-write_within t c =
    value-written (SpellsWithin c.args.longest c.args.depth) c.args.key.now c.args.bytes.now.items c.extend_from_slice.new.self.items c.write_within.new.bytes.items c.args.value.now c.in-Ok.ensures.items c.in-Ok-write_within.ensures

pub write_value-returns-in-Err-write_within : goal.write_value-returns-in-Err-write_within
write_value-returns-in-Err-write_within t c =
    let inner = SpellsWithin c.args.longest c.args.depth in
    let old = c.args.bytes.now.items in
    let cut : c.truncate.new.self.items ≡ take (length old) c.write_within.new.bytes.items = c.truncate.ensures.items ∙ ap (λ n. take n c.write_within.new.bytes.items) (c.len-start.ensures ∙ c.args.bytes.now.ok.0) in
    subst (Writes (SpellsValue inner c.args.key.now) c.args.value.now old (Err c.in-Err-write_within.unwritten)) (sym cut)
    (value-unwritten inner c.args.key.now old c.extend_from_slice.new.self.items c.write_within.new.bytes.items c.args.value.now c.in-Err-write_within.unwritten c.in-Ok.ensures.items c.in-Err-write_within.ensures)
