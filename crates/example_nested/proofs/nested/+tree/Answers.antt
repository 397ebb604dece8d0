use Rattle.std.proofs.Common.{◌<◌, subst, arith}
use Rattle.winnow_parser.specs.Answer.{ahead, outcome}
use Rattle.example_nested.specs.Nested.{Nested-suc}
use Rattle.example_nested.proofs.nested.+tree.Goals as goal

pub returns-clause-means : goal.returns-clause-means
returns-clause-means g t c =
    let stands = ahead g.I.Rest.location g.I.Stream.remaining in
    let code = g.I.Token.AsChar.code in
    let deep : 0 < c.args.depth = omega (arith, c.if-depth-eq0.false) in
    subst (λ means. means (g.I.StreamIsPartial.expects_more c.args.input.now) (stands c.args.input.now) (outcome c.read_around.result (stands c.read_around.new.input))) (Nested-suc code c.args.depth deep) (rw c.by_rule.ensures at c.read_around.ensures.means)
