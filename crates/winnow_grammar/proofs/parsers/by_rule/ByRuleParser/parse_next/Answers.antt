use Rattle.winnow_parser.specs.Answer.{ahead}
use Rattle.winnow_parser.proofs.lemmas.ErrorLemmas.{ContractErrors-called}
use Rattle.winnow_grammar.proofs.parsers.by_rule.ByRuleParser.parse_next.Goals as goal

pub returns-clause-error : goal.returns-clause-error
returns-clause-error g c =
    ContractErrors-called g.F.Fn g.I.Stream.valid g.I.StreamIsPartial.expects_more (ahead g.I.Rest.location g.I.Stream.remaining) c.args.self.now.read c.args.alloc _ _ c.read.result c.requires.valid c.read.ensures
