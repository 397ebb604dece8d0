use Rattle.std.proofs.Common.{inr, sym, ◌∙◌}
use Rattle.winnow_parser.specs.Answer.{ahead}
use Rattle.winnow_parser.proofs.lemmas.AloneLemmas.{inside-outer, inside-inner}
use Rattle.winnow_parser.proofs.lemmas.TakenLemmas.{same-place}
use Rattle.winnow_parser.proofs.parsers.and_then.AndThenParser.parse_next.Goals as goal

pub returns-in-Err-clause-means : goal.returns-in-Err-clause-means
returns-in-Err-clause-means g c =
    let stands = ahead g.P.Output.Rest.location g.P.Output.Stream.remaining in
    let here = ahead g.I.Rest.location g.I.Stream.remaining in
    let partial = g.I.StreamIsPartial.expects_more c.args.input.now in
    inside-outer stands (g.Q.Parser.means c.args.self.now.inner) (g.P.Parser.means c.args.self.now.outer)
    partial (here c.args.input.now) (here c.parse_next.new.input) c.in-Err.failure c.in-Err.ensures.means

pub returns-in-Err-read_alone-clause-means : goal.returns-in-Err-read_alone-clause-means
returns-in-Err-read_alone-clause-means g c =
    let stands = ahead g.P.Output.Rest.location g.P.Output.Stream.remaining in
    let here = ahead g.I.Rest.location g.I.Stream.remaining in
    let partial = g.I.StreamIsPartial.expects_more c.args.input.now in
    let a = here c.args.input.now in
    let b = here c.reset.new.self in
    let inner = c.in-Err-read_alone.ensures.means in
    let back = same-place a b (sym (c.reset.ensures.location ∙ c.checkpoint-start.ensures.location)) (sym (c.reset.ensures.remains ∙ c.checkpoint-start.ensures.means)) in
    inside-inner stands (g.Q.Parser.means c.args.self.now.inner) (g.P.Parser.means c.args.self.now.outer)
    (g.met.Q.Parser.lawful c.args.self.now.inner).final partial a b (here c.parse_next.new.input) c.in-Ok.part inner.0 c.in-Err-read_alone.failure back c.in-Ok.ensures.means inner.1

pub returns-in-Err-read_alone-clause-error : goal.returns-in-Err-read_alone-clause-error
returns-in-Err-read_alone-clause-error g c =
    let here = ahead g.I.Rest.location g.I.Stream.remaining in
    inr (c.in-Ok.part, (here c.parse_next.new.input, (c.in-Ok.ensures.means, c.in-Err-read_alone.ensures.error)))
