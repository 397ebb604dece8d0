use Rattle.std.proofs.Common.{◌-◌, length, take, drop, refl}
use Rattle.format_csv_fields.proofs.lemmas.ReadLemmas.{looked-ahead}
use Rattle.format_csv_fields.proofs.field_reader.FieldReader.look_ahead.Goals as goal

pub invariant_of-self : goal.invariant_of-self
invariant_of-self c =
    let r = c.self.inside in
    let kept = c.ahead-kept.result.now in
    let bytes = take (length kept - r.at) (drop r.at kept) in (
      c.self.invariant.0,
      looked-ahead kept r.reader.ahead r.at c.look-text.result c.looked_at-self-inside.result c.ahead-kept.ensures c.look-text.ensures
          (c.looked_at-self-inside.ensures bytes refl),
      tt,
    )
