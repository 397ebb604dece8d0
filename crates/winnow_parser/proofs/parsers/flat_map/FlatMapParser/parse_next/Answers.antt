use Rattle.std.proofs.Common.{inr, subst}
use Rattle.winnow_parser.specs.Outcome.{Fails}
use Rattle.winnow_parser.specs.Answer.{ahead, failed}
use Rattle.winnow_parser.proofs.parsers.flat_map.FlatMapParser.parse_next.Goals as goal

pub returns-clause-means : goal.returns-clause-means
returns-clause-means g c =
    let stands = ahead g.I.Rest.location g.I.Stream.remaining in
    let between = stands c.parse_next.new.input in
    let fails = Fails (failed c.in-Err.failure (stands c.parse_next-2.new.input)) in
    let flag = g.met.I.StreamIsPartial.keeps_flag c.args.input.now c.parse_next.new.input c.in_ok-value.ensures.kept in
    let second = subst (λ partial. g.Q.Parser.means c.f-next.result partial between fails) flag c.in-Err.ensures.means in
    inr (c.in_ok-value.value, (between, (c.f-next.result, (c.in_ok-value.ensures.means, c.f-next.ensures, second))))

pub returns-clause-error : goal.returns-clause-error
returns-clause-error g c =
    let between = ahead g.I.Rest.location g.I.Stream.remaining c.parse_next.new.input in
    let flag = g.met.I.StreamIsPartial.keeps_flag c.args.input.now c.parse_next.new.input c.in_ok-value.ensures.kept in
    let second = subst (λ partial. g.Q.Parser.errors c.f-next.result partial between c.parse_next-2.new.input c.in-Err.failure) flag c.in-Err.ensures.error in
    inr (c.in_ok-value.value, (between, (c.f-next.result, (c.in_ok-value.ensures.means, c.f-next.ensures, second))))
