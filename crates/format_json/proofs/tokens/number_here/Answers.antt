use Rattle.std.proofs.Common.{arith}
use Rattle.format_json.proofs.lemmas.ScalarLemmas.{number-whole}
use Rattle.format_json.proofs.lemmas.JsonTokenLemmas.{number-needs, number-wrong, number-token}
use Rattle.format_json.proofs.tokens.number_here.Goals as goal

pub returns-then-count-bytes : goal.returns-then-count-bytes
returns-then-count-bytes c =
    (c.if-partial.true, number-needs c.args.partial c.args.bytes.now c.number_count-count.result c.requires c.if-count-bytes.true c.number_count-count.ensures.run)

pub returns-then-not-is_number : goal.returns-then-not-is_number
returns-then-not-is_number c =
    (omega arith, number-wrong c.args.partial c.args.bytes.now c.number_count-count.result c.requires c.number_count-count.ensures.within c.number_count-count.ensures.run c.number_count-count.ensures.ends c.else-partial.either (c.if-not-is_number.ensures))

pub returns : goal.returns
returns c =
    number-token c.args.partial c.args.bytes.now c.in_ok-number_of.field-0 c.number_count-count.result
    (number-whole c.args.partial c.args.bytes.now c.number_count-count.result c.in_ok-number_of.field-0 c.number_count-count.ensures.within c.number_count-count.ensures.ends c.else-partial.either (c.if-not-is_number.ensures) (c.in_ok-number_of.ensures))
