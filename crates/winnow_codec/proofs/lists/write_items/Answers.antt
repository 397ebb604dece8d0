use Rattle.std.proofs.Common.{◌≡◌, ◌<◌, ◌+◌, ◌∷◌, [], ◌++◌, Err, length, take, ap, sym, ◌∙◌, subst, arith, append_assoc}
use Rattle.std.proofs.lemmas.List.{take_more}
use Rattle.winnow_codec.specs.Lists.{SpellsEach}
use Rattle.winnow_codec.specs.Writing.{Writes}
use Rattle.winnow_codec.proofs.lemmas.Lists.{each-more, items-unwritten}
use Rattle.winnow_codec.proofs.lists.write_items.Goals as goal

pub loop-value-preserved : goal.loop-value-preserved
loop-value-preserved g c =
    let inner = g.F.Format.spells c.args.item.now in
    let values = c.args.values.now in
    let i = c.loop-value.value-index in
    let value = c.value-item.result in
    let so_far = c.loop-value.invariant in
    let one = c.in-Ok.ensures in
    let within : i < length values = omega arith in
    let more : take (i + 1) values ≡ take i values ++ value ∷ [] = take_more values i value within ∙ ap (λ v. take i values ++ v ∷ []) (sym c.value-item.is) in (
      so_far.0 ++ one.0,
      (
        subst (λ vs. SpellsEach inner vs (so_far.0 ++ one.0)) (sym more) (each-more inner (take i values) value so_far.0 one.0 so_far.1.0 one.1.0),
        one.1.1 ∙ ap (λ l. l ++ one.0) so_far.1.1 ∙ append_assoc c.args.bytes.now.items so_far.0 one.0,
      ),
    )

pub returns-in-Err : goal.returns-in-Err
returns-in-Err g c =
    let inner = g.F.Format.spells c.args.item.now in
    let values = c.args.values.now in
    let i = c.loop-value.value-index in
    let value = c.value-item.result in
    let old = c.args.bytes.now.items in
    let within : i < length values = omega arith in
    let cut : c.truncate.new.self.items ≡ take (length old) c.write.new.bytes.items = c.truncate.ensures.items ∙ ap (λ n. take n c.write.new.bytes.items) (c.len-start.ensures ∙ c.args.bytes.now.ok.0) in
    subst (Writes (SpellsEach inner) values old (Err c.in-Err.unwritten)) (sym cut)
    (items-unwritten inner values i value old c.loop-value.bytes.items c.write.new.bytes.items c.loop-value.invariant.0 c.in-Err.unwritten within c.value-item.is c.loop-value.invariant.1.1 c.in-Err.ensures)
