use Rattle.winnow_parser.specs.Determined.{Shows}
use Rattle.winnow_parser.proofs.lemmas.DeterminedLemmas.{determined-maps}
use Rattle.winnow_parser.proofs.lemmas.ImageLemmas.{determined-verify}
use Rattle.winnow_parser.proofs.laws.determined_function_law.Goals as goal

pub returns-clause-mapped : goal.returns-clause-mapped
returns-clause-mapped g c = λ view other f a respects d. determined-maps (Shows view) (Shows other) (λ x y. g.F.Fn.post f (x, tt) y) respects (g.A.Parser.means a) d

pub returns-clause-verified : goal.returns-clause-verified
returns-clause-verified g c = λ view test a respects d. determined-verify (g.G.ValueTest.says test) (g.A.Parser.means a) (Shows view) respects d
