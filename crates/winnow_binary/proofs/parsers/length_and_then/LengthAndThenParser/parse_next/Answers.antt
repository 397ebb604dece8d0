use Rattle.std.proofs.Common.{inr}
use Rattle.winnow_parser.specs.Answer.{ahead}
use Rattle.winnow_binary.specs.Lengths.{CountedFront}
use Rattle.winnow_binary.proofs.lemmas.LengthAndThenLemmas.{within-outer, within-inner}
use Rattle.winnow_binary.proofs.parsers.length_and_then.LengthAndThenParser.parse_next.Goals as goal

pub returns-in-Err-clause-means : goal.returns-in-Err-clause-means
returns-in-Err-clause-means g c =
    let stands = ahead g.I.Rest.location g.I.Stream.remaining in
    let partial = g.I.StreamIsPartial.expects_more c.args.input.now in
    let a = stands c.args.input.now in
    let b = stands c.take_counted.new.input in
    let counted = CountedFront g.P.Output.Length.number stands g.I.Stream.counts_shortage (g.P.Parser.means c.args.self.now.length) in
    within-outer stands (g.Q.Parser.means c.args.self.now.inner) counted partial a b c.in-Err.failure c.in-Err.ensures.means

pub returns-in-Err-read_alone-clause-means : goal.returns-in-Err-read_alone-clause-means
returns-in-Err-read_alone-clause-means g c =
    let stands = ahead g.I.Rest.location g.I.Stream.remaining in
    let partial = g.I.StreamIsPartial.expects_more c.args.input.now in
    let a = stands c.args.input.now in
    let b = stands c.take_counted.new.input in
    let counted = CountedFront g.P.Output.Length.number stands g.I.Stream.counts_shortage (g.P.Parser.means c.args.self.now.length) in
    let inner = c.in-Err-read_alone.ensures.means in
    within-inner stands (g.Q.Parser.means c.args.self.now.inner) counted
    (g.met.Q.Parser.lawful c.args.self.now.inner).final partial a b c.in-Ok.front inner.0 c.in-Err-read_alone.failure c.in-Ok.ensures.means inner.1

pub returns-in-Err-read_alone-clause-error : goal.returns-in-Err-read_alone-clause-error
returns-in-Err-read_alone-clause-error g c =
    let stands = ahead g.I.Rest.location g.I.Stream.remaining in
    let b = stands c.take_counted.new.input in
    inr (c.in-Ok.front, (b, (c.in-Ok.ensures.means, c.in-Err-read_alone.ensures.error)))
