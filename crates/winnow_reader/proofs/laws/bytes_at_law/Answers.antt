use Rattle.winnow_reader.specs.InTurn.{bytes_at-same, bytes_at-moved, bytes_at-slice}
use Rattle.winnow_reader.proofs.laws.bytes_at_law.Goals as goal

pub returns-clause-same : goal.returns-clause-same
returns-clause-same c = bytes_at-same

pub returns-clause-moved : goal.returns-clause-moved
returns-clause-moved c = bytes_at-moved

pub returns-clause-slice : goal.returns-clause-slice
returns-clause-slice c = bytes_at-slice
