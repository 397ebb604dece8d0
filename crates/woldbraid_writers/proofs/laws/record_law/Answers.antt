use Rattle.woldbraid_writers.proofs.lemmas.RecordLemmas.{record-written}
use Rattle.woldbraid_writers.proofs.laws.record_law.Goals as goal

pub returns : goal.returns
returns c = record-written
