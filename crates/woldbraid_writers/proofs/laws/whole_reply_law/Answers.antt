use Rattle.woldbraid_writers.proofs.lemmas.ReplyLemmas.{calls-write, calls-free}
use Rattle.woldbraid_writers.proofs.laws.whole_reply_law.Goals as goal

pub returns-clause-text : goal.returns-clause-text
returns-clause-text c = calls-write

pub returns-clause-writable : goal.returns-clause-writable
returns-clause-writable c = calls-free
