use Rattle.std.proofs.Common.{arith}
use Rattle.winnow_reader_limit.proofs.lemmas.BoundLemmas.{WaitsWithin-next}
use Rattle.winnow_reader_limit.proofs.laws.limit_law.Goals as goal

pub returns-clause-start : goal.returns-clause-start
returns-clause-start g c = λ inner greatest. omega arith

pub returns-clause-kept : goal.returns-clause-kept
returns-clause-kept g c = λ f piece n bounded. (bounded, bounded, omega arith)

pub returns-clause-next : goal.returns-clause-next
returns-clause-next g c = λ old new result bounded next early.
    WaitsWithin-next g.R.Record.means old new bounded result next early
