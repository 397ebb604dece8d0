use Rattle.winnow_parser.specs.Determined.{Shows}
use Rattle.winnow_parser.proofs.lemmas.DeterminedLemmas.{determined-returns}
use Rattle.winnow_combinator.proofs.lemmas.AgreeingEndLemmas.{determined-eof, determined-fail}
use Rattle.winnow_combinator.proofs.laws.determined_end_law.Goals as goal

pub returns-clause-ended : goal.returns-clause-ended
returns-clause-ended g c = λ view fronts. determined-eof g.I.Stream.is_slice (Shows view) fronts

pub returns-clause-nothing : goal.returns-clause-nothing
returns-clause-nothing g c = determined-returns tt _ tt

pub returns-clause-failing : goal.returns-clause-failing
returns-clause-failing g c = λ view. determined-fail (Shows view)
