use Rattle.winnow_parser.specs.Determined.{Shows}
use Rattle.winnow_combinator.proofs.lemmas.AgreeingRightLemmas.{determined-separated_foldr1}
use Rattle.winnow_combinator.proofs.laws.determined_foldr1_law.Goals as goal

pub returns : goal.returns
returns g c = λ v w op a s respects.
    determined-separated_foldr1 (Shows v) (Shows w) _ respects (g.S.Parser.means s.parser) (g.A.Parser.means a.parser) s.one a.one
