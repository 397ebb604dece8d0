use Rattle.winnow_parser.specs.Determined.{Shows}
use Rattle.winnow_parser.proofs.lemmas.ImageLemmas.{determined-verify_map}
use Rattle.winnow_parser.proofs.lemmas.MadeLemmas.{determined-flat_map}
use Rattle.winnow_combinator.proofs.laws.determined_choosing_law.Goals as goal

pub returns-clause-verify_map : goal.returns-clause-verify_map
returns-clause-verify_map g c = λ v w f a respects. determined-verify_map _ (g.A.Parser.means a.parser) (Shows v) (Shows w) respects a.one

pub returns-clause-try_map : goal.returns-clause-try_map
returns-clause-try_map g c = λ v w f a respects. determined-verify_map _ (g.A.Parser.means a.parser) (Shows v) (Shows w) respects a.one

pub returns-clause-flat_map : goal.returns-clause-flat_map
returns-clause-flat_map g c = λ v x f a one all. determined-flat_map _ g.Q.Parser.means (g.A.Parser.means a.parser) (Shows v) (Shows x) one all a.one
