use Rattle.format_csv.proofs.lemmas.ReaderLemmas.{read-records, fails-damaged, never-idle}
use Rattle.format_csv.proofs.laws.rows_in_pieces_law.Goals as goal

pub returns-clause-records : goal.returns-clause-records
returns-clause-records c = λ f input rows. read-records f input rows

pub returns-clause-damaged : goal.returns-clause-damaged
returns-clause-damaged c = λ f place fails n. fails-damaged f place fails n

pub returns-clause-takes : goal.returns-clause-takes
returns-clause-takes c = λ f place. never-idle f place
