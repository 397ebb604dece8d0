use Rattle.winnow_match.proofs.lemmas.HitLemmas.{some-says, none-says, hit-splits}
use Rattle.winnow_match.proofs.laws.find_law.Goals as goal

pub returns-clause-some : goal.returns-clause-some
returns-clause-some c = λ needles bytes r some. some-says needles bytes some r

pub returns-clause-none : goal.returns-clause-none
returns-clause-none c = none-says

pub returns-clause-one : goal.returns-clause-one
returns-clause-one c = hit-splits
