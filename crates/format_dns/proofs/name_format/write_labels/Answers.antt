use Rattle.std.proofs.Common.{◌≡◌, ◌<◌, ◌+◌, ◌∷◌, [], ◌++◌, Err, length, take, ap, sym, ◌∙◌, subst, arith, append_assoc}
use Rattle.std.proofs.lemmas.List.{take_more}
use Rattle.winnow_codec.specs.Lists.{SpellsEach}
use Rattle.winnow_codec.specs.Writing.{Writes}
use Rattle.winnow_codec.proofs.lemmas.Lists.{each-more, items-unwritten}
use Rattle.format_dns.specs.Names.{SpellsLabel, SpellsLabels}
use Rattle.format_dns.proofs.name_format.write_labels.Goals as goal

pub loop-label-preserved : goal.loop-label-preserved
loop-label-preserved c =
    let values = c.args.labels.now in
    let i = c.loop-label.label-index in
    let value = c.label-item.result in
    let so_far = c.loop-label.invariant in
    let one = c.in-Ok.ensures in
    let within : i < length values = omega arith in
    let more : take (i + 1) values ≡ take i values ++ value ∷ [] = take_more values i value within ∙ ap (λ v. take i values ++ v ∷ []) (sym c.label-item.is) in (
      so_far.0 ++ one.0,
      (
        subst (λ vs. SpellsEach SpellsLabel vs (so_far.0 ++ one.0)) (sym more) (each-more SpellsLabel (take i values) value so_far.0 one.0 so_far.1.0 one.1.0),
        one.1.1 ∙ ap (λ l. l ++ one.0) so_far.1.1 ∙ append_assoc c.args.bytes.now.items so_far.0 one.0,
      ),
    )

pub returns-in-Err : goal.returns-in-Err
returns-in-Err c =
    let values = c.args.labels.now in
    let i = c.loop-label.label-index in
    let value = c.label-item.result in
    let old = c.args.bytes.now.items in
    let within : i < length values = omega arith in
    let cut : c.truncate.new.self.items ≡ take (length old) c.write_label_part.new.bytes.items = c.truncate.ensures.items ∙ ap (λ n. take n c.write_label_part.new.bytes.items) (c.len-start.ensures ∙ c.args.bytes.now.ok.0) in
    subst (Writes SpellsLabels values old (Err c.in-Err.unwritten)) (sym cut)
    (items-unwritten SpellsLabel values i value old c.loop-label.bytes.items c.write_label_part.new.bytes.items c.loop-label.invariant.0 c.in-Err.unwritten within c.label-item.is c.loop-label.invariant.1.1 c.in-Err.ensures)
