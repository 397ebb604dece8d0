use Rattle.winnow_match.proofs.lemmas.ComparisonLemmas.{ok-more, error-more}
use Rattle.winnow_match.proofs.laws.compare_more_law.Goals as goal

pub returns-clause-ok : goal.returns-clause-ok
returns-clause-ok c = ok-more

pub returns-clause-error : goal.returns-clause-error
returns-clause-error c = error-more
