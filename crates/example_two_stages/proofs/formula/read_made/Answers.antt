use Rattle.std.specs.Prelude.{Result}
use Rattle.std.specs.declared.alloc.AllocError.{AllocError}
use Rattle.example_two_stages.specs.declared.tree.Tree.{Tree}
use Rattle.winnow_grammar.specs.AnyAnswer.{AnyAnswer-of}
use Rattle.example_two_stages.proofs.lemmas.AnswerLemmas.{fails-as}
use Rattle.example_two_stages.proofs.formula.read_made.Goals as goal

pub returns-in-Err-clause-answer : goal.returns-in-Err-clause-answer
returns-in-Err-clause-answer g c =
    fails-as (Result Tree AllocError) Tree _ _ _ (AnyAnswer-of (g.P.Parser.means c.args.parser.now) (g.met.P.Parser.lawful c.args.parser.now) _ _ _ (rw c.in-Err.is at c.parse_next.ensures.means))
