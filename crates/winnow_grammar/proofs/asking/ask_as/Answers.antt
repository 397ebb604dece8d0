use Rattle.winnow_grammar.specs.Spelt.{Spelt-of}
use Rattle.winnow_grammar.proofs.asking.ask_as.Goals as goal

pub returns-clause-answer : goal.returns-clause-answer
returns-clause-answer g c =
    Spelt-of (g.P.Spells.spells c.args.parser.now) (g.P.Parser.means c.args.parser.now) (g.met.P.Parser.lawful c.args.parser.now) (g.met.P.Spells.spelled c.args.parser.now) _ _ _ (g.met.I.Stream.positive_widths c.args.input.now c.requires.valid) c.parse_next.ensures.means
