use Rattle.std.proofs.Common.{arith, sym, ◌∙◌}
use Rattle.std.proofs.lemmas.Bool.Decides.{nat_tests}
use Rattle.format_json_scalars.proofs.lemmas.EscapeLemmas.{slash-begun, letter-wrong}
use Rattle.format_json_scalars.proofs.escapes.escape_at.Goals as goal

pub returns-then-is_empty : goal.returns-then-is_empty
returns-then-is_empty c = slash-begun c.args.rest.now (grind (arith, nat_tests, c.is_empty.ensures, c.if-is_empty.true))

pub returns-in-None : goal.returns-in-None
returns-in-None c =
    letter-wrong c.args.rest.now (grind (arith, nat_tests, c.is_empty.ensures, c.if-is_empty.false)) (sym c.escaped.ensures ∙ c.in-None.is)
    (grind (arith, nat_tests, c.if-letter-eq117.false))
