use Rattle.winnow_match.proofs.lemmas.MoveLemmas.{find-stable}
use Rattle.winnow_match.proofs.lemmas.RuleLemmas.{none-definite, empty-definite, rule-says}
use Rattle.winnow_match.proofs.lemmas.TailLemmas.{one-length}
use Rattle.winnow_match.proofs.laws.definite_hit_law.Goals as goal

pub returns-clause-none : goal.returns-clause-none
returns-clause-none c = none-definite

pub returns-clause-empty : goal.returns-clause-empty
returns-clause-empty c = empty-definite

pub returns-clause-some : goal.returns-clause-some
returns-clause-some c = λ needles bytes r some first. rule-says needles bytes some r first

pub returns-clause-one_length : goal.returns-clause-one_length
returns-clause-one_length c = one-length

pub returns-clause-same : goal.returns-clause-same
returns-clause-same c = λ needles bytes more d. (find-stable needles bytes more d).0

pub returns-clause-stays : goal.returns-clause-stays
returns-clause-stays c = λ needles bytes more d. (find-stable needles bytes more d).1
