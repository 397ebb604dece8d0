use Rattle.std.proofs.Common.{◌≡◌, ◌∷◌, ◌<◌, ◌^◌, rules, ap, ◌∙◌, subst}
use Rattle.std.specs.Prelude.{decimal}
use Rattle.winnow_count.specs.Reading.{IsSomeExactly}
use Rattle.format_resp.proofs.lemmas.NumberLemmas.{integer_empty, negative_none, negative_some, positive_some}
use Rattle.format_resp.proofs.numbers.integer_in.Goals as goal

pub returns : goal.returns
returns c =
    positive_some c.args.text.now c.in-Some.first.now c.in-Some.digits.now c.in-Some-number_in-2.number c.positive.result
    (search rules) c.if-first-eq45.false
    (subst (IsSomeExactly (λ n. (n < 2 ^ 64) × (c.args.text.now ≡ decimal n))) c.in-Some-number_in-2.is c.number_in-2.ensures) c.positive.ensures

pub returns-in_default : goal.returns-in_default
returns-in_default c = integer_empty c.args.text.now (search rules)

pub returns-in_default-number_in : goal.returns-in_default-number_in
returns-in_default-number_in c =
    let minus : c.args.text.now ≡ c.in-Some.first.now ∷ c.in-Some.digits.now = search rules in
    negative_none c.args.text.now c.in-Some.digits.now (minus ∙ ap (λ b. b ∷ c.in-Some.digits.now) c.if-first-eq45.true)
    (subst (IsSomeExactly (λ n. (n < 2 ^ 64) × (c.in-Some.digits.now ≡ decimal n))) c.in_default-number_in.is c.number_in.ensures)

pub returns-then-first-eq45 : goal.returns-then-first-eq45
returns-then-first-eq45 c =
    let minus : c.args.text.now ≡ c.in-Some.first.now ∷ c.in-Some.digits.now = search rules in
    negative_some c.args.text.now c.in-Some.digits.now c.in-Some-number_in.number c.negative.result (minus ∙ ap (λ b. b ∷ c.in-Some.digits.now) c.if-first-eq45.true)
    (subst (IsSomeExactly (λ n. (n < 2 ^ 64) × (c.in-Some.digits.now ≡ decimal n))) c.in-Some-number_in.is c.number_in.ensures) c.negative.ensures
