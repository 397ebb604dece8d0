use Rattle.std.proofs.Common.{arith}
use Rattle.winnow_match.proofs.lemmas.CaselessLemmas.{caseless-long, caseless-test}
use Rattle.winnow_match.proofs.caseless.begins_with_caseless.Goals as goal

pub returns-then-input-prefix : goal.returns-then-input-prefix
returns-then-input-prefix c = caseless-long c.args.prefix.now c.args.input.now (omega (arith, c.if-input-prefix.true))

pub returns : goal.returns
returns c =
    caseless-test c.args.prefix.now c.args.input.now c.eq_ignore_ascii_case.result
    (omega (arith, c.if-input-prefix.false)) c.eq_ignore_ascii_case.ensures.test
