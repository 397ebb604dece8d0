use Rattle.format_resp.proofs.lemmas.FaultLemmas.{cause-stays}
use Rattle.format_resp.proofs.laws.cause_law.Goals as goal

pub returns : goal.returns
returns c = cause-stays
