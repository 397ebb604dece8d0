use Rattle.std.proofs.Common.{◌≤◌, length}
use Rattle.memchr.specs.Find.{Nowhere}
use Rattle.winnow_match.specs.Search.{SomeOccurs, bytes_of_needles}
use Rattle.winnow_match.proofs.finding.find_needles.Given as goal

abbrev pub invariant-loop : goal.invariant-loop
invariant-loop l = (l.passed ≤ length l.input) × Nowhere (SomeOccurs (bytes_of_needles l.needles) l.input) 0 l.passed
