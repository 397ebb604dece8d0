use Rattle.winnow_parser.specs.Outcome.{Gives}
use Rattle.winnow_parser.specs.Answer.{ahead}
use Rattle.winnow_parser.proofs.parsers.take.TakenParser.parse_next.Goals as goal

pub take_since-requires-clause-moved : goal.take_since-requires-clause-moved
take_since-requires-clause-moved g c =
    let stands = ahead g.I.Rest.location g.I.Stream.remaining in
    rw (c.checkpoint-start.ensures.location, c.checkpoint-start.ensures.means)
    ((g.met.P.Parser.lawful c.args.self.now.inner).onward (g.I.StreamIsPartial.expects_more c.args.input.now) (stands c.args.input.now) (Gives c.in_ok-parse_next.field-0 (stands c.parse_next.new.input)) c.in_ok-parse_next.ensures.means)
