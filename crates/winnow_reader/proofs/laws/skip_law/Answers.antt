use Rattle.winnow_reader.proofs.lemmas.SinceLemmas.{HasReadSince-zero, HasRead-zero, HasReadSince-skipped, HasReadSince-pushed, HasReadSince-ended}
use Rattle.winnow_reader.proofs.lemmas.NextLemmas.{ReadsOnSince-next}
use Rattle.winnow_reader.proofs.laws.skip_law.Goals as goal

pub returns-clause-whole : goal.returns-clause-whole
returns-clause-whole g c = λ f input values.
    let means = g.R.Record.means in (HasReadSince-zero means f input values, HasRead-zero means f input values)

pub returns-clause-skipped : goal.returns-clause-skipped
returns-clause-skipped g c = λ f n. HasReadSince-skipped g.R.Record.means f n

pub returns-clause-pushed : goal.returns-clause-pushed
returns-clause-pushed g c = λ place f piece e. HasReadSince-pushed g.R.Record.means place f piece e

pub returns-clause-ended : goal.returns-clause-ended
returns-clause-ended g c = λ place f. HasReadSince-ended g.R.Record.means place f

pub returns-clause-next : goal.returns-clause-next
returns-clause-next g c = λ place old new result next early.
    ReadsOnSince-next g.R.Record.means place old new (g.met.R.Record.lawful old.parser) result next early
