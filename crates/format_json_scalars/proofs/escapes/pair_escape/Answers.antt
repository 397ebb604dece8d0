use Rattle.std.proofs.Common.{ap, ◌∙◌, arith}
use Rattle.format_json_scalars.specs.Strings.{pair_code}
use Rattle.format_json_scalars.proofs.lemmas.EscapeLemmas.{pair-whole, pair-begun, pair-wrong}
use Rattle.format_json_scalars.proofs.escapes.pair_escape.Goals as goal

pub returns-in-None : goal.returns-in-None
returns-in-None c a b e d hex is = pair-wrong c.args.high a b e d c.requires hex is c.args.rest.now c.in-None.ensures

pub returns-in-Some : goal.returns-in-Some
returns-in-Some c a b e d hex is =
    pair-begun c.args.high a b e d c.requires hex is c.args.rest.now (omega (arith, c.if-rest-lt6.true)) c.in-Some.ensures.0

pub returns-in-Some-from_u32 : goal.returns-in-Some-from_u32
returns-in-Some-from_u32 c a b e d hex is =
    pair-whole c.args.high a b e d c.requires hex is c.args.rest.now c.in-Some-from_u32.pair (omega (arith, c.if-rest-lt6.false)) c.in-Some-2.ensures.0
    (c.in-Some-from_u32.ensures.value.1 ∙ ap (pair_code c.args.high) c.in-Some.ensures.1)
