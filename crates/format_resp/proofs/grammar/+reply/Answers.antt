use Rattle.std.proofs.Common.{◌<◌, subst, arith}
use Rattle.winnow_parser.specs.Answer.{ahead, outcome}
use Rattle.format_resp.specs.Meanings.{Nested-suc}
use Rattle.format_resp.proofs.grammar.+reply.Goals as goal

pub returns-clause-means : goal.returns-clause-means
returns-clause-means g t c =
    let stands = ahead g.I.Rest.location g.I.Stream.remaining in
    let deep : 0 < c.args.depth = omega (arith, c.if-depth-eq0.false) in
    subst (λ means. means (g.I.StreamIsPartial.expects_more c.args.input.now) (stands c.args.input.now) (outcome c.read_layer-2.result (stands c.read_layer-2.new.input)))
    (Nested-suc g.I.Token.AsChar.code g.I.Stream.counts_shortage g.I.Stream.is_slice g.I.Slice.AsBytes.bytes c.args.longest c.args.depth deep) (rw c.by_rule.ensures at c.read_layer-2.ensures.means)
