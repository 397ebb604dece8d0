use Rattle.format_csv_fields.proofs.lemmas.LawLemmas.{rows-read, rows-all}
use Rattle.format_csv_fields.proofs.laws.field_rows_law.Goals as goal

pub returns-clause-rows : goal.returns-clause-rows
returns-clause-rows c = rows-read

pub returns-clause-all : goal.returns-clause-all
returns-clause-all c = rows-all
