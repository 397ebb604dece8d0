use Rattle.winnow_match.proofs.lemmas.ComparisonLemmas.{ok-says, incomplete-says, error-says}
use Rattle.winnow_match.proofs.laws.compare_law.Goals as goal

pub returns-clause-ok : goal.returns-clause-ok
returns-clause-ok c = ok-says

pub returns-clause-incomplete : goal.returns-clause-incomplete
returns-clause-incomplete c = incomplete-says

pub returns-clause-error : goal.returns-clause-error
returns-clause-error c = error-says
