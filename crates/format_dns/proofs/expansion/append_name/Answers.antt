use Rattle.std.proofs.Common.{Err, refl, sym, ◌∙◌, subst}
use Rattle.winnow_codec.specs.Writing.{Writes}
use Rattle.format_dns.specs.Names.{SpellsLabels}
use Rattle.format_dns.proofs.lemmas.NameLemmas.{name-parts}
use Rattle.format_dns.proofs.expansion.append_name.Goals as goal

pub returns-in-Ok-write_labels-clause-appended : goal.returns-in-Ok-write_labels-clause-appended
returns-in-Ok-write_labels-clause-appended c =
    let name = c.in-Ok.name in
    let read = c.in-Ok.ensures in
    let labels = c.in-Ok-write_labels.ensures in (
      name,
      (
        refl,
        (
          (read.0, (_, (read.1.0, sym c.bytes_from-rest.ensures ∙ read.1.1))),
          (labels.0, (subst (λ vs. SpellsLabels vs labels.0) c.deref.ensures.value labels.1.0, labels.1.1)),
        ),
      ),
    )

pub unreachable-requires : goal.unreachable-requires
unreachable-requires c =
    let name = c.in-Ok.name in
    let parts = name-parts name.labels.items name.ending c.in-Ok.ensures.0 c.in-Ok.ensures.1.0.1 in
    let none = subst (λ u. Writes SpellsLabels c.deref.result.now c.args.text.now.items (Err u) c.write_labels.new.bytes.items) c.in-Err-Unspelled.field-0-is c.in-Err-Unspelled.ensures in
    none.0 parts.0 (subst (λ vs. SpellsLabels vs parts.0) (sym c.deref.ensures.value) parts.1.1.0)
