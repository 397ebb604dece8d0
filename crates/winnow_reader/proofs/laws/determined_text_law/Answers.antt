use Rattle.winnow_parser.specs.Determined.{Shows}
use Rattle.winnow_reader.proofs.lemmas.DeterminedLemmas.{IsDetermined-InUtf8}
use Rattle.winnow_reader.proofs.laws.determined_text_law.Goals as goal

pub returns : goal.returns
returns g c = λ view r. IsDetermined-InUtf8 (g.R.TextRecord.means r) (Shows view)
