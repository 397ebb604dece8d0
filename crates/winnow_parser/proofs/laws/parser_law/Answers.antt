use Rattle.winnow_parser.proofs.laws.parser_law.Goals as goal

pub returns : goal.returns
returns g c = g.met.P.Parser.lawful c.args.parser.now
