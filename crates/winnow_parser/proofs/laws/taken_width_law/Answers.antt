use Rattle.winnow_stream.proofs.lemmas.MovingLemmas.{IsEndOf-moved}
use Rattle.winnow_parser.proofs.lemmas.TakenLemmas.{offset-taken, after-taken}
use Rattle.winnow_parser.proofs.laws.taken_width_law.Goals as goal

pub returns-clause-rest : goal.returns-clause-rest
returns-clause-rest g c = λ a b m. IsEndOf-moved a.location b.location a.tokens b.tokens m

pub returns-clause-offset : goal.returns-clause-offset
returns-clause-offset g c = offset-taken

pub returns-clause-after : goal.returns-clause-after
returns-clause-after g c = after-taken
