use Rattle.std.proofs.Common.{◌-◌, length, drop, subst, arith, length-drop, take_all}
use Rattle.format_json_scalars.specs.Escapes.{IsPair}
use Rattle.format_json_scalars.proofs.lemmas.EscapeLemmas.{code-begun, code-pair, code-wrong}
use Rattle.format_json_scalars.proofs.escapes.code_escape.Goals as goal

pub returns-in_default : goal.returns-in_default
returns-in_default c = code-wrong c.args.rest.now c.in_default.ensures

pub returns-then-rest-lt4 : goal.returns-then-rest-lt4
returns-then-rest-lt4 c = code-begun c.args.rest.now (omega (arith, c.if-rest-lt4.true)) c.in-Some.ensures.0

pub returns-then-code-le56319 : goal.returns-then-code-le56319
returns-then-code-le56319 c =
    code-pair c.args.rest.now c.in-Some.code c.pair_escape.result (omega (arith, c.if-rest-lt4.false)) c.in-Some.ensures.0.0 c.in-Some.ensures.1
    (subst (λ t. IsPair c.in-Some.code t c.pair_escape.result) (take_all (length c.args.rest.now - 4) (drop 4 c.args.rest.now) (omega (arith, length-drop 4 c.args.rest.now))) c.pair_escape.ensures)
