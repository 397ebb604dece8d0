use Rattle.winnow_parser.specs.Determined.{Shows}
use Rattle.winnow_parser.proofs.lemmas.DeterminedLemmas.{determined-pair, determined-alt2}
use Rattle.winnow_parser.proofs.laws.determined_pair_law.Goals as goal

pub returns-clause-pair : goal.returns-clause-pair
returns-clause-pair g c = λ view other a b d e. determined-pair (Shows view) (Shows other) (g.A.Parser.means a) (g.B.Parser.means b) d e

pub returns-clause-either : goal.returns-clause-either
returns-clause-either g c = λ view a b d e. determined-alt2 g.E.ParserError.or_refusable (Shows view) (g.A.Parser.means a) (g.C.Parser.means b) d e
