use Rattle.std.proofs.Common.{◌∙◌, sym, subst}
use Rattle.format_json_scalars.specs.Numbers.{IsNumber, Tells}
use Rattle.format_json_scalars.proofs.lemmas.NumberTextLemmas.{tells-written}
use Rattle.format_json_scalars.proofs.numbers.is_of_text.Goals as goal

pub returns-then-is_number : goal.returns-then-is_number
returns-then-is_number c =
    let text = c.deref-then-is_number.result.now in
    let is = subst (λ t. Tells t (IsNumber c.deref.result.now)) c.if-is_number.true c.is_number.ensures in
    let same = c.deref.ensures.value ∙ sym c.deref-then-is_number.ensures.value in
    tells-written c.args.number.now text c.integer_in.result c.eq.result c.deref-then-is_number.ensures.value (subst IsNumber same is) c.integer_in.ensures c.eq.ensures
