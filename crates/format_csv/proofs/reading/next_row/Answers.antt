use Rattle.format_csv.proofs.reading.next_row.Goals as goal
use Rattle.format_lemmas.proofs.lemmas.ByteLemmas.{bytes-units}

pub returns-clause-answer : goal.returns-clause-answer
returns-clause-answer c = rw (bytes-units c.args.input.now.now, bytes-units c.read_record.new.input.now) at c.read_record.ensures.answer

pub returns-clause-complete : goal.returns-clause-complete
returns-clause-complete c = rw (bytes-units c.args.input.now.now, bytes-units c.read_record.new.input.now) at c.read_record.ensures.complete
