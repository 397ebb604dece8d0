use Rattle.woldbraid_writers.proofs.lemmas.TextLemmas.{text-whole}
use Rattle.woldbraid_writers.proofs.lemmas.TextCallLemmas.{leads-after, text-comes}
use Rattle.woldbraid_writers.proofs.laws.whole_text_law.Goals as goal

pub returns : goal.returns
returns c = record { whole = text-whole; comes = text-comes; dropped = leads-after }
