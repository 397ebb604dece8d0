use Rattle.wb_csv.proofs.lemmas.PlainLemmas.{comma-same, lines-plain, copies-plain}
use Rattle.wb_csv.proofs.laws.comma_law.Goals as goal

pub returns-clause-input : goal.returns-clause-input
returns-clause-input c s bytes is = comma-same s bytes is

pub returns-clause-lines : goal.returns-clause-lines
returns-clause-lines c s rows plain = lines-plain s plain rows

pub returns-clause-copied : goal.returns-clause-copied
returns-clause-copied c s input held now plain copies = copies-plain s plain input held now copies
