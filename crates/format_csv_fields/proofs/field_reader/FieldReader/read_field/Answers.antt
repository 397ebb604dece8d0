use Rattle.std.proofs.Common.{◌≡◌, ◌+◌, ap, ◌∙◌, subst}
use Rattle.format_csv_fields.specs.FieldState.{FieldState}
use Rattle.format_csv_fields.specs.Finding.{Finds}
use Rattle.format_csv_fields.specs.Reading.{TakesField}
use Rattle.format_csv_fields.specs.declared.finding.Found.TheVariants.{Field, NeedsMore, Damaged, TooLong}
use Rattle.format_csv_fields.proofs.lemmas.ReadLemmas.{finds-view, takes-lent, finds-damage}
use Rattle.format_csv_fields.proofs.field_reader.FieldReader.read_field.Goals as goal

pub take-requires-clause-found : goal.take-requires-clause-found
take-requires-clause-found c =
    finds-view c.look_ahead-text.new.self c.has_ended.result c.limit.result c.ahead.result.now c.has_ended.ensures c.limit.ensures c.ahead.ensures c.look_ahead-text.result (Field c.in-Field.ending c.in-Field.length) c.in-Field.ensures

pub returns-in-Ok : goal.returns-in-Ok
returns-in-Ok c =
    takes-lent c.args.self.now c.take.new.self c.in-Field.ending
    (subst (λ o. TakesField o c.in-Field.ending c.take.new.self) c.look_ahead-text.ensures.same c.in-Ok.ensures.taken)

pub returns-in-NeedsMore : goal.returns-in-NeedsMore
returns-in-NeedsMore c =
    let same = c.look_ahead-text.ensures.same in
    let text = c.look_ahead-text.result in
    let finds = subst (λ (o : FieldState). Finds o.state.ended o.limit o.state.ahead text NeedsMore) same (finds-view c.look_ahead-text.new.self c.has_ended.result c.limit.result c.ahead.result.now c.has_ended.ensures c.limit.ensures c.ahead.ensures text NeedsMore c.in-NeedsMore.ensures) in
    (finds.0, finds.1, same)

pub returns-in-Damaged : goal.returns-in-Damaged
returns-in-Damaged c =
    let same = c.look_ahead-text.ensures.same in
    let text = c.look_ahead-text.result in
    let n = c.in-Damaged.offset in
    let place = c.place_of-place.result in
    let finds = subst (λ (o : FieldState). Finds o.state.ended o.limit o.state.ahead text (Damaged n)) same (finds-view c.look_ahead-text.new.self c.has_ended.result c.limit.result c.ahead.result.now c.has_ended.ensures c.limit.ensures c.ahead.ensures text (Damaged n) c.in-Damaged.ensures) in
    (finds-damage c.args.self.now text n place finds (subst (λ (o : FieldState). place ≡ o.state.place + n) same c.place_of-place.ensures), same)

pub returns-in-TooLong : goal.returns-in-TooLong
returns-in-TooLong c =
    let same = c.look_ahead-text.ensures.same in
    let old = c.look_ahead-text.new.self in
    let text = c.look_ahead-text.result in
    let place = c.place_of-place-in-TooLong.result in
    let finds = subst (λ (o : FieldState). Finds o.state.ended o.limit o.state.ahead text TooLong) same (finds-view old c.has_ended.result c.limit.result c.ahead.result.now c.has_ended.ensures c.limit.ensures c.ahead.ensures text TooLong c.in-TooLong.ensures) in (
      finds,
      subst (λ (o : FieldState). place ≡ o.state.place + o.limit) same (c.place_of-place-in-TooLong.ensures ∙ ap (λ k. old.state.place + k) c.limit-in-TooLong.ensures),
      same,
    )
