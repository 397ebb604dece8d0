use Rattle.std.proofs.Common.{◌≡◌, ◌<◌, ◌+◌, ◌-◌, suc, ◌∷◌, [], ◌++◌, Ok, Err, length, take, ap, sym, ◌∙◌, subst, arith, append_assoc}
use Rattle.std.proofs.lemmas.List.{take_more}
use Rattle.winnow_codec.specs.Lists.{SpellsEach}
use Rattle.winnow_codec.specs.Writing.{Writes}
use Rattle.winnow_codec.proofs.lemmas.Lists.{each-more, items-unwritten}
use Rattle.winnow_codec_nested.specs.Layered.{SpellsNested}
use Rattle.winnow_codec_nested.proofs.lemmas.Layers.{head-unwritten, layer-written, layer-unwritten}
use Rattle.winnow_codec_nested.proofs.writing.+writing.Goals as goal

pub write_inners-loop-index-preserved : goal.write_inners-loop-index-preserved
write_inners-loop-index-preserved g t c =
    let inner = SpellsNested (g.H.Format.spells c.args.heads.now) g.L.Layered.head_of g.L.Layered.held g.L.Layered.count_after c.args.depth in
    let values = g.L.Layered.held c.args.value.now in
    let i = c.loop-index.index in
    let value = c.inner.result.now in
    let so_far = c.loop-index.invariant in
    let one = c.in-Ok.ensures in
    let within : i < length values = omega (arith, c.loop-index-test.true, c.count-index-end.ensures) in
    let more : take (i + 1) values ≡ take i values ++ value ∷ [] = take_more values i value within ∙ ap (λ v. take i values ++ v ∷ []) (sym c.inner.ensures) in
    record {
      start = so_far.start;
      spelled = (
        so_far.spelled.0 ++ one.0,
        (
          subst (λ vs. SpellsEach inner vs (so_far.spelled.0 ++ one.0)) (sym more) (each-more inner (take i values) value so_far.spelled.0 one.0 so_far.spelled.1.0 one.1.0),
          one.1.1 ∙ ap (λ l. l ++ one.0) so_far.spelled.1.1 ∙ append_assoc c.args.bytes.now.items so_far.spelled.0 one.0,
        ),
      );
    }

pub write_inners-returns-in-Err : goal.write_inners-returns-in-Err
write_inners-returns-in-Err g t c =
    let inner = SpellsNested (g.H.Format.spells c.args.heads.now) g.L.Layered.head_of g.L.Layered.held g.L.Layered.count_after c.args.depth in
    let values = g.L.Layered.held c.args.value.now in
    let i = c.loop-index.index in
    let value = c.inner.result.now in
    let old = c.args.bytes.now.items in
    let within : i < length values = omega (arith, c.loop-index-test.true, c.count-index-end.ensures) in
    let so_far = c.loop-index.invariant in
    let cut : c.truncate.new.self.items ≡ take (length old) c.write_value.new.bytes.items = c.truncate.ensures.items ∙ ap (λ n. take n c.write_value.new.bytes.items) so_far.start in
    subst (Writes (SpellsEach inner) values old (Err c.in-Err.unwritten)) (sym cut)
    (items-unwritten inner values i value old c.loop-index.bytes.items c.write_value.new.bytes.items so_far.spelled.0 c.in-Err.unwritten within c.inner.ensures so_far.spelled.1.1 c.in-Err.ensures)

pub write_value-returns-in-Err : goal.write_value-returns-in-Err
write_value-returns-in-Err g t c =
    let heads = g.H.Format.spells c.args.heads.now in
    let head_of = g.L.Layered.head_of in
    let held = g.L.Layered.held in
    let count = g.L.Layered.count_after in
    let value = c.args.value.now in
    let old = c.args.bytes.now.items in
    let new = c.write_head.new.bytes.items in
    let inner = SpellsNested heads head_of held count (c.args.depth - 1) in
    let some : c.args.depth ≡ suc (c.args.depth - 1) = omega (arith, c.if-depth-eq0.false) in
    subst (λ n. Writes (SpellsNested heads head_of held count n) value old (Err c.in-Err.unwritten) new) (sym some)
    (head-unwritten heads head_of held count inner value old new new c.in-Err.unwritten
    c.in-Err.ensures)

pub write_value-returns-in-Ok-write_inners : goal.write_value-returns-in-Ok-write_inners
write_value-returns-in-Ok-write_inners g t c =
    let heads = g.H.Format.spells c.args.heads.now in
    let head_of = g.L.Layered.head_of in
    let held = g.L.Layered.held in
    let count = g.L.Layered.count_after in
    let value = c.args.value.now in
    let old = c.args.bytes.now.items in
    let mid = c.write_head.new.bytes.items in
    let new = c.write_inners.new.bytes.items in
    let inner = SpellsNested heads head_of held count (c.args.depth - 1) in
    let some : c.args.depth ≡ suc (c.args.depth - 1) = omega (arith, c.if-depth-eq0.false) in
    let as_many : length (held value) ≡ count (head_of value) = omega (arith, c.if-count_said-count.false, c.count_said.ensures, c.count.ensures) in
    subst (λ n. Writes (SpellsNested heads head_of held count n) value old (Ok tt) new) (sym some)
    (layer-written heads head_of held count inner value old mid new as_many c.in-Ok.ensures c.in-Ok-write_inners.ensures)

pub write_value-returns-in-Err-write_inners :
    goal.write_value-returns-in-Err-write_inners
write_value-returns-in-Err-write_inners g t c =
    let heads = g.H.Format.spells c.args.heads.now in
    let head_of = g.L.Layered.head_of in
    let held = g.L.Layered.held in
    let count = g.L.Layered.count_after in
    let value = c.args.value.now in
    let old = c.args.bytes.now.items in
    let mid = c.write_head.new.bytes.items in
    let new = c.write_inners.new.bytes.items in
    let inner = SpellsNested heads head_of held count (c.args.depth - 1) in
    let some : c.args.depth ≡ suc (c.args.depth - 1) = omega (arith, c.if-depth-eq0.false) in
    let cut : c.truncate.new.self.items ≡ take (length old) new = c.truncate.ensures.items ∙ ap (λ n. take n new) (c.len-start.ensures ∙ c.args.bytes.now.ok.0) in
    subst (λ n. Writes (SpellsNested heads head_of held count n) value old (Err c.in-Err-write_inners.unwritten) c.truncate.new.self.items) (sym some)
    (subst (Writes (SpellsNested heads head_of held count (suc (c.args.depth - 1))) value old (Err c.in-Err-write_inners.unwritten)) (sym cut)
    (layer-unwritten heads head_of held count inner value old mid new c.in-Err-write_inners.unwritten c.in-Ok.ensures c.in-Err-write_inners.ensures))
