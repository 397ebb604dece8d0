use Rattle.wb_replies.proofs.lemmas.SessionLemmas.{fails-ahead}
use Rattle.wb_replies.proofs.session.failure_law.Goals as goal

pub returns : goal.returns
returns g c = fails-ahead _ g.met.R.Record.lawful
