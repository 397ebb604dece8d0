use Rattle.winnow_grammar.specs.AnyAnswer.{AnyAnswer-of}
use Rattle.example_two_stages.proofs.reading.read_by.Goals as goal

pub returns-clause-answer : goal.returns-clause-answer
returns-clause-answer g c =
    AnyAnswer-of (g.P.Parser.means c.args.parser.now) (g.met.P.Parser.lawful c.args.parser.now) _ _ _ c.parse_next.ensures.means
