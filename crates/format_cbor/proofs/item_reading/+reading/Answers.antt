use Rattle.std.proofs.Common.{◌≡◌, ◌<◌, ◌-◌, [], ◌∷◌, ◌++◌, suc, length, refl, ap, sym, ◌∙◌, subst, arith, length-append}
use Rattle.std.proofs.lemmas.Bool.Decides.{nat_tests}
use Rattle.winnow_parser.specs.Answer.{ahead, failed}
use Rattle.winnow_parser.specs.Outcome.{Gives, Fails}
use Rattle.winnow_codec.specs.Lists.{SpellsEach}
use Rattle.winnow_codec.proofs.lemmas.Reading.{takes-both, fewer-unread, both-given, both-unbegun, both-unfinished}
use Rattle.winnow_codec.proofs.lemmas.Lists.{takes-none, each-more, items-unread}
use Rattle.format_cbor.specs.Entries.{IsBefore, SpellsKey}
use Rattle.format_cbor.specs.Items.{SpellsWithin, AreSameWithin}
use Rattle.format_cbor.specs.ItemLaws.{IsFormat-Within}
use Rattle.format_cbor.proofs.lemmas.EntryReading.{Run, run-spelled, run-entry, map-stopped, key-before, key-after}
use Rattle.format_cbor.proofs.lemmas.ItemReading.{array-given, array-unread, map-given, map-unread, tagged-given, tagged-unread, scalar-given, scalar-unread, within-unread, within-read, head-missed, item-read, item-missed}
use Rattle.format_cbor.proofs.item_reading.+reading.Goals as goal

-- ---- An item

pub read_within-returns-then-depth-eq0-clause-means :
    goal.read_within-returns-then-depth-eq0-clause-means
read_within-returns-then-depth-eq0-clause-means g t c =
    let stands = ahead g.I.Rest.location g.I.Stream.remaining in
    let partial = g.I.StreamIsPartial.expects_more c.args.input.now in
    let none : c.args.depth ≡ 0 = grind (arith, nat_tests, c.if-depth-eq0.true) in
    within-unread c.args.longest c.args.depth none partial (stands c.args.input.now)

pub read_within-returns-in-Ok-clause-means : goal.read_within-returns-in-Ok-clause-means
read_within-returns-in-Ok-clause-means g t c =
    let stands = ahead g.I.Rest.location g.I.Stream.remaining in
    let partial = g.I.StreamIsPartial.expects_more c.args.input.now in
    let above : c.args.depth ≡ suc (c.args.depth - 1) = grind (arith, nat_tests, c.if-depth-eq0.false) in
    within-read c.args.longest c.args.depth (c.args.depth - 1) above partial (stands c.args.input.now) (Gives c.in-Ok.item (stands c.read_item.new.input)) c.in-Ok.ensures.means

pub read_within-returns-in-Err-clause-means : goal.read_within-returns-in-Err-clause-means
read_within-returns-in-Err-clause-means g t c =
    let stands = ahead g.I.Rest.location g.I.Stream.remaining in
    let partial = g.I.StreamIsPartial.expects_more c.args.input.now in
    let above : c.args.depth ≡ suc (c.args.depth - 1) = grind (arith, nat_tests, c.if-depth-eq0.false) in
    within-read c.args.longest c.args.depth (c.args.depth - 1) above partial (stands c.args.input.now) (Fails (failed c.in-Err.failure (stands c.read_item.new.input))) c.in-Err.ensures.means

pub read_item-returns-in-Err-clause-means : goal.read_item-returns-in-Err-clause-means
read_item-returns-in-Err-clause-means g t c =
    let stands = ahead g.I.Rest.location g.I.Stream.remaining in
    let partial = g.I.StreamIsPartial.expects_more c.args.input.now in
    let inner = SpellsWithin c.args.longest c.args.depth in
    head-missed c.args.longest (AreSameWithin c.args.depth) inner (IsFormat-Within c.args.longest c.args.depth) partial (stands c.args.input.now) (stands c.read.new.input) (failed c.in-Err.failure (stands c.read.new.input)) c.in-Err.ensures.means

pub read_item-returns-in-Ok-read_contents-clause-means :
    goal.read_item-returns-in-Ok-read_contents-clause-means
read_item-returns-in-Ok-read_contents-clause-means g t c =
    let stands = ahead g.I.Rest.location g.I.Stream.remaining in
    let partial = g.I.StreamIsPartial.expects_more c.args.input.now in
    let inner = SpellsWithin c.args.longest c.args.depth in
    item-read c.args.longest (AreSameWithin c.args.depth) inner (IsFormat-Within c.args.longest c.args.depth) partial (stands c.args.input.now) (stands c.read.new.input) c.in-Ok.label (stands c.read_contents.new.input) c.in-Ok-read_contents.item c.in-Ok.ensures.means c.in-Ok-read_contents.ensures.means

pub read_item-returns-in-Err-read_contents-clause-means :
    goal.read_item-returns-in-Err-read_contents-clause-means
read_item-returns-in-Err-read_contents-clause-means g t c =
    let stands = ahead g.I.Rest.location g.I.Stream.remaining in
    let partial = g.I.StreamIsPartial.expects_more c.args.input.now in
    let inner = SpellsWithin c.args.longest c.args.depth in
    let flag = g.met.I.StreamIsPartial.keeps_flag c.args.input.now c.read.new.input c.in-Ok.ensures.kept in
    item-missed c.args.longest (AreSameWithin c.args.depth) inner (IsFormat-Within c.args.longest c.args.depth) partial (stands c.args.input.now) (stands c.read.new.input) c.in-Ok.label (failed c.in-Err-read_contents.failure (stands c.read_contents.new.input)) c.in-Ok.ensures.means (rw flag at c.in-Err-read_contents.ensures.means)

pub read_contents-returns-in-Ok-clause-means : goal.read_contents-returns-in-Ok-clause-means
read_contents-returns-in-Ok-clause-means g t c =
    let stands = ahead g.I.Rest.location g.I.Stream.remaining in
    let partial = g.I.StreamIsPartial.expects_more c.args.input.now in
    let inner = SpellsWithin c.args.longest c.args.depth in
    array-given c.args.longest inner c.args.label partial (stands c.args.input.now) (stands c.read_items.new.input) c.in-Ok.items c.in-Array.is c.in-Ok.ensures.means

pub read_contents-returns-in-Err-clause-means : goal.read_contents-returns-in-Err-clause-means
read_contents-returns-in-Err-clause-means g t c =
    let stands = ahead g.I.Rest.location g.I.Stream.remaining in
    let partial = g.I.StreamIsPartial.expects_more c.args.input.now in
    let inner = SpellsWithin c.args.longest c.args.depth in
    array-unread c.args.longest inner c.args.label partial (stands c.args.input.now) (failed c.in-Err.failure (stands c.read_items.new.input)) c.in-Array.is c.in-Err.ensures.means

pub read_contents-returns-in-Ok-read_entries-clause-means :
    goal.read_contents-returns-in-Ok-read_entries-clause-means
read_contents-returns-in-Ok-read_entries-clause-means g t c =
    let stands = ahead g.I.Rest.location g.I.Stream.remaining in
    let partial = g.I.StreamIsPartial.expects_more c.args.input.now in
    let inner = SpellsWithin c.args.longest c.args.depth in
    map-given c.args.longest inner c.args.label partial (stands c.args.input.now) (stands c.read_entries.new.input) c.in-Ok-read_entries.entries c.in-Map.is c.in-Ok-read_entries.ensures.means

pub read_contents-returns-in-Err-read_entries-clause-means :
    goal.read_contents-returns-in-Err-read_entries-clause-means
read_contents-returns-in-Err-read_entries-clause-means g t c =
    let stands = ahead g.I.Rest.location g.I.Stream.remaining in
    let partial = g.I.StreamIsPartial.expects_more c.args.input.now in
    let inner = SpellsWithin c.args.longest c.args.depth in
    map-unread c.args.longest inner c.args.label partial (stands c.args.input.now) (failed c.in-Err-read_entries.failure (stands c.read_entries.new.input)) c.in-Map.is c.in-Err-read_entries.ensures.means

pub read_contents-returns-in-Ok-new-clause-means : goal.read_contents-returns-in-Ok-new-clause-means
read_contents-returns-in-Ok-new-clause-means g t c =
    let stands = ahead g.I.Rest.location g.I.Stream.remaining in
    let partial = g.I.StreamIsPartial.expects_more c.args.input.now in
    let inner = SpellsWithin c.args.longest c.args.depth in
    tagged-given c.args.longest inner c.args.label partial (stands c.args.input.now) (stands c.read_within.new.input) c.in-Ok-read_within.item c.in-Ok-new.boxed c.in-Ok-new.ensures.ok c.in-Tag.is c.in-Ok-read_within.ensures.means

pub read_contents-returns-in-Err-read_within-clause-means :
    goal.read_contents-returns-in-Err-read_within-clause-means
read_contents-returns-in-Err-read_within-clause-means g t c =
    let stands = ahead g.I.Rest.location g.I.Stream.remaining in
    let partial = g.I.StreamIsPartial.expects_more c.args.input.now in
    let inner = SpellsWithin c.args.longest c.args.depth in
    tagged-unread c.args.longest inner c.args.label partial (stands c.args.input.now) (failed c.in-Err-read_within.failure (stands c.read_within.new.input)) c.in-Tag.is c.in-Err-read_within.ensures.means

pub read_contents-returns-in-Ok-read_body-clause-means :
    goal.read_contents-returns-in-Ok-read_body-clause-means
read_contents-returns-in-Ok-read_body-clause-means g t c =
    let stands = ahead g.I.Rest.location g.I.Stream.remaining in
    let partial = g.I.StreamIsPartial.expects_more c.args.input.now in
    let inner = SpellsWithin c.args.longest c.args.depth in
    scalar-given c.args.longest inner c.args.label partial (stands c.args.input.now) (stands c.read_body.new.input) c.in-Ok-read_body.scalar c.in-Ok-read_body.ensures.means

pub read_contents-returns-in-Err-read_body-clause-means :
    goal.read_contents-returns-in-Err-read_body-clause-means
read_contents-returns-in-Err-read_body-clause-means g t c =
    let stands = ahead g.I.Rest.location g.I.Stream.remaining in
    let partial = g.I.StreamIsPartial.expects_more c.args.input.now in
    let inner = SpellsWithin c.args.longest c.args.depth in
    scalar-unread c.args.longest inner c.args.label partial (stands c.args.input.now) (failed c.in-Err-read_body.failure (stands c.read_body.new.input)) c.in_default.not-Array c.in_default.not-Map c.in_default.not-Tag c.in-Err-read_body.ensures.means

-- ---- Items

pub read_items-loop-k-init : goal.read_items-loop-k-init
read_items-loop-k-init g t c =
    record {
      valid = c.requires;
      kept = g.met.I.Stream.keeps_reflexive c.args.input.now;
      number = ap length c.new-items.ensures.items;
      read = ([], (subst (λ vs. SpellsEach (SpellsWithin c.args.longest c.args.depth) vs []) (sym c.new-items.ensures.items) refl, takes-none _));
    }

pub read_items-loop-k-preserved : goal.read_items-loop-k-preserved
read_items-loop-k-preserved g t c =
    let inner = SpellsWithin c.args.longest c.args.depth in
    let so_far = c.loop-k.invariant in
    let one = c.in-Ok.ensures.means in
    let pushed : c.push.new.self.items ≡ c.loop-k.items.items ++ c.in-Ok.item ∷ [] = c.in-Ok-push.ensures.items in
    record {
      valid = c.in-Ok.ensures.valid;
      kept = g.met.I.Stream.keeps_transitive c.args.input.now c.loop-k.input c.read_within.new.input so_far.kept c.in-Ok.ensures.kept;
      number = omega (arith, ap length pushed, length-append c.loop-k.items.items (c.in-Ok.item ∷ []), so_far.number);
      read = (
        so_far.read.0 ++ one.0,
        (
          subst (λ vs. SpellsEach inner vs (so_far.read.0 ++ one.0)) (sym pushed) (each-more inner c.loop-k.items.items c.in-Ok.item so_far.read.0 one.0 so_far.read.1.0 one.1.0),
          takes-both so_far.read.1.1 one.1.1,
        ),
      );
    }

pub read_items-returns-in-Err-clause-means : goal.read_items-returns-in-Err-clause-means
read_items-returns-in-Err-clause-means g t c =
    let inner = SpellsWithin c.args.longest c.args.depth in
    let so_far = c.loop-k.invariant in
    let flag = g.met.I.StreamIsPartial.keeps_flag c.args.input.now c.loop-k.input so_far.kept in
    let fewer : length c.loop-k.items.items < c.args.count = omega (arith, so_far.number, c.loop-k-test.true) in
    items-unread inner (AreSameWithin c.args.depth) (IsFormat-Within c.args.longest c.args.depth).prefix_free
    (ahead g.I.Rest.location g.I.Stream.remaining c.args.input.now) (ahead g.I.Rest.location g.I.Stream.remaining c.loop-k.input)
    c.args.count c.loop-k.items.items so_far.read.0 fewer so_far.read.1.0 so_far.read.1.1 (g.I.StreamIsPartial.expects_more c.args.input.now)
    (failed c.in-Err.failure (ahead g.I.Rest.location g.I.Stream.remaining c.read_within.new.input)) (rw flag at c.in-Err.ensures.means)

-- ---- Entries

pub read_entries-loop-k-init : goal.read_entries-loop-k-init
read_entries-loop-k-init g t c =
    record {
      valid = c.requires;
      kept = g.met.I.Stream.keeps_reflexive c.args.input.now;
      number = ap length c.new-entries.ensures.items;
      read = ([], (subst (λ es. Run (SpellsWithin c.args.longest c.args.depth) [] es c.new-last.result.items []) (sym c.new-entries.ensures.items) (c.new-last.ensures.items, refl), takes-none _));
    }

pub read_entries-loop-k-preserved : goal.read_entries-loop-k-preserved
read_entries-loop-k-preserved g t c =
    let inner = SpellsWithin c.args.longest c.args.depth in
    let so_far = c.loop-k.invariant in
    let one = c.in-Ok.ensures.means in
    let pushed : c.push.new.self.items ≡ c.loop-k.entries.items ++ c.in-Ok.entry ∷ [] = c.in-Ok-push.ensures.items in
    record {
      valid = c.in-Ok.ensures.valid;
      kept = g.met.I.Stream.keeps_transitive c.args.input.now c.loop-k.input c.read_entry.new.input so_far.kept c.in-Ok.ensures.kept;
      number = omega (arith, ap length pushed, length-append c.loop-k.entries.items (c.in-Ok.entry ∷ []), so_far.number);
      read = (
        so_far.read.0 ++ one.0,
        (
          subst (λ es. Run inner [] es c.read_entry.new.last.items (so_far.read.0 ++ one.0)) (sym pushed)
              (run-entry inner (AreSameWithin c.args.depth) (IsFormat-Within c.args.longest c.args.depth) c.loop-k.entries.items [] c.loop-k.last.items so_far.read.0 c.in-Ok.entry c.read_entry.new.last.items one.0 so_far.read.1.0 one.1.0 c.in-Ok.ensures.spelling),
          takes-both so_far.read.1.1 one.1.1,
        ),
      );
    }

pub read_entries-returns-in-Err-clause-means : goal.read_entries-returns-in-Err-clause-means
read_entries-returns-in-Err-clause-means g t c =
    let inner = SpellsWithin c.args.longest c.args.depth in
    let so_far = c.loop-k.invariant in
    let flag = g.met.I.StreamIsPartial.keeps_flag c.args.input.now c.loop-k.input so_far.kept in
    let fewer : length c.loop-k.entries.items < c.args.count = omega (arith, so_far.number, c.loop-k-test.true) in
    map-stopped inner (AreSameWithin c.args.depth) (IsFormat-Within c.args.longest c.args.depth)
    (ahead g.I.Rest.location g.I.Stream.remaining c.args.input.now) (ahead g.I.Rest.location g.I.Stream.remaining c.loop-k.input)
    c.args.count c.loop-k.entries.items c.loop-k.last.items so_far.read.0 fewer so_far.read.1.0 so_far.read.1.1 (g.I.StreamIsPartial.expects_more c.args.input.now)
    (failed c.in-Err.failure (ahead g.I.Rest.location g.I.Stream.remaining c.read_entry.new.input)) (rw flag at c.in-Err.ensures.means)

pub read_entries-returns-clause-means : goal.read_entries-returns-clause-means
read_entries-returns-clause-means g t c =
    let so_far = c.loop-k.invariant in
    (so_far.read.0, ((omega (arith, so_far.number, c.loop-k-test.false), run-spelled (SpellsWithin c.args.longest c.args.depth) c.loop-k.entries.items [] c.loop-k.last.items so_far.read.0 so_far.read.1.0), so_far.read.1.1))

-- ---- An entry

pub read_entry-returns-in-Ok-read_within-clause-means :
    goal.read_entry-returns-in-Ok-read_within-clause-means
read_entry-returns-in-Ok-read_within-clause-means g t c =
    let stands = ahead g.I.Rest.location g.I.Stream.remaining in
    let partial = g.I.StreamIsPartial.expects_more c.args.input.now in
    let inner = SpellsWithin c.args.longest c.args.depth in
    both-given (SpellsKey inner c.args.last.now.items) (λ _. inner) partial (stands c.args.input.now) (stands c.read_key.new.input) (stands c.read_within.new.input) c.in-Ok.key c.in-Ok-read_within.value c.in-Ok.ensures.means c.in-Ok-read_within.ensures.means

pub read_entry-returns-in-Err-read_within-clause-means :
    goal.read_entry-returns-in-Err-read_within-clause-means
read_entry-returns-in-Err-read_within-clause-means g t c =
    let stands = ahead g.I.Rest.location g.I.Stream.remaining in
    let partial = g.I.StreamIsPartial.expects_more c.args.input.now in
    let inner = SpellsWithin c.args.longest c.args.depth in
    let flag = g.met.I.StreamIsPartial.keeps_flag c.args.input.now c.read_key.new.input c.in-Ok.ensures.kept in
    both-unfinished (SpellsKey inner c.args.last.now.items) (λ _. inner) partial (stands c.args.input.now) (AreSameWithin c.args.depth) (λ v w b d r s h k e. (IsFormat-Within c.args.longest c.args.depth).prefix_free v w b d r s h.0 k.0 e) (λ v x w bytes e s. s) (stands c.read_key.new.input) c.in-Ok.key (failed c.in-Err-read_within.failure (stands c.read_within.new.input)) c.in-Ok.ensures.means (rw flag at c.in-Err-read_within.ensures.means)

pub read_entry-returns-in-Err-clause-means : goal.read_entry-returns-in-Err-clause-means
read_entry-returns-in-Err-clause-means g t c =
    let stands = ahead g.I.Rest.location g.I.Stream.remaining in
    let partial = g.I.StreamIsPartial.expects_more c.args.input.now in
    let inner = SpellsWithin c.args.longest c.args.depth in
    both-unbegun (SpellsKey inner c.args.last.now.items) (λ _. inner) partial (stands c.args.input.now) (failed c.in-Err.failure (stands c.read_key.new.input)) c.in-Err.ensures.means

pub read_key-returns-in-Err-clause-means : goal.read_key-returns-in-Err-clause-means
read_key-returns-in-Err-clause-means g t c =
    let stands = ahead g.I.Rest.location g.I.Stream.remaining in
    let partial = g.I.StreamIsPartial.expects_more c.args.input.now in
    let inner = SpellsWithin c.args.longest c.args.depth in
    fewer-unread inner (SpellsKey inner c.args.last.now.items) (λ w. w) (λ w bytes s. s.0) partial (stands c.args.input.now) (failed c.in-Err.failure (stands c.read_within.new.input)) c.in-Err.ensures.means

pub read_key-returns-then-not-is_before-clause-means :
    goal.read_key-returns-then-not-is_before-clause-means
read_key-returns-then-not-is_before-clause-means g t c =
    let stands = ahead g.I.Rest.location g.I.Stream.remaining in
    let partial = g.I.StreamIsPartial.expects_more c.args.input.now in
    let inner = SpellsWithin c.args.longest c.args.depth in
    let w = c.in-Ok-write_within.ensures in
    let spelling = c.write_within.new.bytes.items in
    let spelled : inner c.in-Ok.key spelling = subst (inner c.in-Ok.key) (sym (w.1.1 ∙ ap (λ l. l ++ w.0) c.new-spelling.ensures.items)) w.1.0 in
    let not : IsBefore c.args.last.now.items spelling → ⊥ = λ b.
    let there : IsBefore c.deref.result.now c.deref-2.result.now = subst (λ l. IsBefore l c.deref-2.result.now) (sym c.deref.ensures.value) (subst (IsBefore c.args.last.now.items) (sym c.deref-2.ensures.value) b) in
    let yes = c.is_before.ensures.1 there in let no = c.if-not-is_before.true in absurd (cc) in
    key-before inner (AreSameWithin c.args.depth) (IsFormat-Within c.args.longest c.args.depth) c.args.last.now.items spelling partial (stands c.args.input.now) (stands c.read_within.new.input) c.in-Ok.key c.in-Ok.ensures.means spelled not

pub read_key-returns-clause-means : goal.read_key-returns-clause-means
read_key-returns-clause-means g t c =
    let stands = ahead g.I.Rest.location g.I.Stream.remaining in
    let partial = g.I.StreamIsPartial.expects_more c.args.input.now in
    let inner = SpellsWithin c.args.longest c.args.depth in
    let w = c.in-Ok-write_within.ensures in
    let spelling = c.write_within.new.bytes.items in
    let spelled : inner c.in-Ok.key spelling = subst (inner c.in-Ok.key) (sym (w.1.1 ∙ ap (λ l. l ++ w.0) c.new-spelling.ensures.items)) w.1.0 in
    let there : IsBefore c.deref.result.now c.deref-2.result.now = c.is_before.ensures.0 c.if-not-is_before.false in
    let is : IsBefore c.args.last.now.items spelling = subst (λ l. IsBefore l spelling) c.deref.ensures.value (subst (IsBefore c.deref.result.now) c.deref-2.ensures.value there) in
    key-after inner (AreSameWithin c.args.depth) (IsFormat-Within c.args.longest c.args.depth) c.args.last.now.items spelling partial (stands c.args.input.now) (stands c.read_within.new.input) c.in-Ok.key c.in-Ok.ensures.means spelled is

pub read_key-returns-clause-spelling : goal.read_key-returns-clause-spelling
read_key-returns-clause-spelling g t c =
    let inner = SpellsWithin c.args.longest c.args.depth in
    let w = c.in-Ok-write_within.ensures in
    subst (inner c.in-Ok.key) (sym (w.1.1 ∙ ap (λ l. l ++ w.0) c.new-spelling.ensures.items)) w.1.0
