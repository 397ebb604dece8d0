use Rattle.std.proofs.Common.{None}
use Rattle.example_arithmetic_exact.proofs.AnswerLemmas.{answers}
use Rattle.example_arithmetic_exact.proofs.parse_expr.Goals as goal

pub returns : goal.returns
returns c =
    let means = rw (c.verify_map-value.ensures.inner, c.nested_by_rule.ensures) at c.parse_next.ensures.means in
    answers 100 c.args.input.now.now None None c.parse_next.new.input.now c.parse_next.result means
