use Rattle.winnow_parser.specs.Determined.{Shows}
use Rattle.winnow_expression.proofs.lemmas.OneAnswerLemmas.{determined-expression}
use Rattle.winnow_expression.proofs.laws.determined_expression_law.Goals as goal

pub returns : goal.returns
returns g c = λ view v w x p a b d depth level one.
    determined-expression (Shows view) (Shows v) (Shows w) (Shows x) (g.P.Parser.means p) (g.A.UnaryOperators.reads a) (g.A.UnaryOperators.folds a) (g.B.UnaryOperators.reads b) (g.B.UnaryOperators.folds b) (g.C.InfixOperators.reads d) (g.C.InfixOperators.folds d) one depth level
