use Rattle.std.proofs.Common.{◌≡◌, ◌≤◌, ◌++◌, length, take, Err, ap, sym, ◌∙◌, subst, arith, append_assoc}
use Rattle.winnow_codec.specs.Writing.{Writes}
use Rattle.format_dns.specs.Names.{SpellsLabels, SpellsName}
use Rattle.format_dns.proofs.lemmas.NameLemmas.{labels-ended, labels-unwritten, ending-unwritten}
use Rattle.format_dns.proofs.name_format.NameFormatFormat.write.Goals as goal

pub returns-in-Ok-write_ending_part : goal.returns-in-Ok-write_ending_part
returns-in-Ok-write_ending_part c =
    let labels = c.in-Ok.ensures in
    let ending = c.in-Ok-write_ending_part.ensures in
    let name = c.args.value.now in
    let few : length name.labels.items ≤ 127 = omega (arith, c.if-len-gt-MOST_LABELS.false, c.len.ensures, name.labels.ok.0) in
    let spelled = subst (λ vs. SpellsLabels vs labels.0) c.deref.ensures.value labels.1.0 in (
      labels.0 ++ ending.0,
      (
        (few, labels-ended name.labels.items name.ending labels.0 ending.0 spelled ending.1.0),
        ending.1.1 ∙ ap (λ l. l ++ ending.0) labels.1.1 ∙ append_assoc c.args.bytes.now.items labels.0 ending.0,
      ),
    )

pub returns-in-Err : goal.returns-in-Err
returns-in-Err c =
    labels-unwritten c.args.value.now c.args.bytes.now.items c.write_labels.new.bytes.items c.in-Err.unwritten
    (subst (λ vs. Writes SpellsLabels vs c.args.bytes.now.items (Err c.in-Err.unwritten) c.write_labels.new.bytes.items) c.deref.ensures.value c.in-Err.ensures)

pub returns-in-Err-write_ending_part : goal.returns-in-Err-write_ending_part
returns-in-Err-write_ending_part c =
    let labels = c.in-Ok.ensures in
    let old = c.args.bytes.now.items in
    let cut : c.truncate.new.self.items ≡ take (length old) c.write_ending_part.new.bytes.items = c.truncate.ensures.items ∙ ap (λ n. take n c.write_ending_part.new.bytes.items) (c.len-start.ensures ∙ c.args.bytes.now.ok.0) in
    subst (Writes SpellsName c.args.value.now old (Err c.in-Err-write_ending_part.unwritten)) (sym cut)
    (ending-unwritten c.args.value.now old c.write_labels.new.bytes.items c.write_ending_part.new.bytes.items labels.0 c.in-Err-write_ending_part.unwritten labels.1.1 c.in-Err-write_ending_part.ensures)
