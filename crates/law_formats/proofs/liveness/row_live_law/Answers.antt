use Rattle.law_formats.proofs.lemmas.RowLemmas.{row-punctual}
use Rattle.law_formats.proofs.liveness.row_live_law.Goals as goal

pub returns : goal.returns
returns c = row-punctual.live
