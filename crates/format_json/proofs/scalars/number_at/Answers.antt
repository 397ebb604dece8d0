use Rattle.std.proofs.Common.{arith, subst, take, take_all}
use Rattle.format_json_scalars.specs.Numbers.{BeginsNumber, Tells}
use Rattle.format_json.proofs.lemmas.ScalarLemmas.{number-begun, number-never, number-none, number-whole}
use Rattle.format_json.proofs.scalars.number_at.Goals as goal

pub returns-then-begins_number-clause-found : goal.returns-then-begins_number-clause-found
returns-then-begins_number-clause-found c =
    (c.if-partial.true, number-begun c.args.partial c.args.bytes.now c.number_count-count.result c.if-partial.true c.if-count-bytes.true c.number_count-count.ensures.run)

pub returns-then-begins_number-clause-begun : goal.returns-then-begins_number-clause-begun
returns-then-begins_number-clause-begun c =
    let bytes = c.args.bytes.now in
    let count = c.number_count-count.result in
    let is = subst (λ t. Tells t (BeginsNumber (take count bytes))) c.if-begins_number.true c.begins_number.ensures in
    subst BeginsNumber (take_all count bytes (omega (arith, c.if-count-bytes.true))) is

pub returns-then-count-bytes-clause-found : goal.returns-then-count-bytes-clause-found
returns-then-count-bytes-clause-found c =
    let bytes = c.args.bytes.now in
    let count = c.number_count-count.result in
    let never = subst (λ t. Tells t (BeginsNumber (take count bytes))) c.if-begins_number.false c.begins_number.ensures in
    (omega arith, number-never c.args.partial bytes count c.if-count-bytes.true c.number_count-count.ensures.run never)

pub returns-then-not-is_number-clause-found : goal.returns-then-not-is_number-clause-found
returns-then-not-is_number-clause-found c =
    (omega arith, number-none c.args.partial c.args.bytes.now c.number_count-count.result c.number_count-count.ensures.within c.number_count-count.ensures.run c.number_count-count.ensures.ends c.else-partial.either (c.if-not-is_number.ensures))

pub returns-clause-found : goal.returns-clause-found
returns-clause-found c =
    number-whole c.args.partial c.args.bytes.now c.number_count-count.result c.in_ok-number_of.field-0 c.number_count-count.ensures.within c.number_count-count.ensures.ends c.else-partial.either (c.if-not-is_number.ensures) (c.in_ok-number_of.ensures)
