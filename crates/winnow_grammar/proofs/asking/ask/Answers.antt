use Rattle.winnow_grammar.specs.AnyAnswer.{AnyAnswer-of}
use Rattle.winnow_grammar.proofs.asking.ask.Goals as goal

pub returns-clause-answer : goal.returns-clause-answer
returns-clause-answer g c = AnyAnswer-of _ (g.met.P.Parser.lawful c.args.parser.now) _ _ _ c.parse_next.ensures.means
