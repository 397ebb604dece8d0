use Rattle.winnow_error.proofs.lemmas.PickLemmas.{leaves-alike, non_backtrack-alike}
use Rattle.winnow_error.proofs.laws.bracket_law.Goals as goal

pub returns-clause-associative : goal.returns-clause-associative
returns-clause-associative g c = λ join s t. leaves-alike g.E.ParserError.or_gives join s t

pub returns-clause-non_backtrack : goal.returns-clause-non_backtrack
returns-clause-non_backtrack g c = λ s t. non_backtrack-alike g.E.ParserError.or_gives s t
