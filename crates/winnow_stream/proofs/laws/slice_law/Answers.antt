use Rattle.std.proofs.Common.{sym}
use Rattle.winnow_stream.specs.Units.{width-units}
use Rattle.winnow_stream.proofs.lemmas.UnitLemmas.{units-same, is_offset-from_le, le-from_is_offset, units-take, units-drop}
use Rattle.winnow_stream.proofs.laws.slice_law.Goals as goal

pub returns-clause-same : goal.returns-clause-same
returns-clause-same g c = λ xs ys e. units-same xs ys e

pub returns-clause-width : goal.returns-clause-width
returns-clause-width g c = λ xs. width-units xs

pub returns-clause-offset : goal.returns-clause-offset
returns-clause-offset g c = λ xs n. (le-from_is_offset xs n, is_offset-from_le xs n)

pub returns-clause-front : goal.returns-clause-front
returns-clause-front g c = λ xs n l. sym (units-take xs n l)

pub returns-clause-back : goal.returns-clause-back
returns-clause-back g c = λ xs n l. sym (units-drop xs n l)
