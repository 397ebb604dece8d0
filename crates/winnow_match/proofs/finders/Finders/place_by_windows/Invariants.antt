use Rattle.std.proofs.Common.{◌<◌, ◌-◌, length}
use Rattle.memchr.specs.Find.{Nowhere}
use Rattle.winnow_match.specs.Search.{SomeOccurs}
use Rattle.winnow_match.proofs.finders.Finders.place_by_windows.Given as goal

abbrev pub invariant-loop-passed : goal.invariant-loop-passed
invariant-loop-passed l = (0 < l.width) × Nowhere (SomeOccurs l.self l.input) 0 l.passed

abbrev pub decreases-loop-passed : goal.decreases-loop-passed
decreases-loop-passed l = length l.input - l.passed
