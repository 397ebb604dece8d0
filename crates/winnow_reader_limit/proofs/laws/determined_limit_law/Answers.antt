use Rattle.winnow_parser.specs.Determined.{Shows}
use Rattle.winnow_reader_limit.proofs.lemmas.DeterminedLemmas.{IsDetermined-Within}
use Rattle.winnow_reader_limit.proofs.laws.determined_limit_law.Goals as goal

pub returns : goal.returns
returns g c = λ view r greatest. IsDetermined-Within greatest (g.R.Record.means r) (Shows view)
