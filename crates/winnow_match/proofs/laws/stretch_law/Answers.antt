use Rattle.winnow_match.proofs.lemmas.RuleLemmas.{stretch-none-says, stretch-some-says}
use Rattle.winnow_match.proofs.laws.stretch_law.Goals as goal

pub returns-clause-none : goal.returns-clause-none
returns-clause-none c = λ needles bytes r some h. stretch-none-says needles bytes some r h

pub returns-clause-some : goal.returns-clause-some
returns-clause-some c = λ needles bytes r s some h. stretch-some-says needles bytes some r s h
