use Rattle.std.proofs.Common.{◌-◌, length}
use Rattle.winnow_match.specs.Search.{bytes_of_needles}
use Rattle.winnow_script_attempt.specs.Settled.{NoneOccurs}
use Rattle.winnow_script_attempt.proofs.searches.first_begun.Given as goal

abbrev pub invariant-loop-start : goal.invariant-loop-start
invariant-loop-start l = record {
  none : NoneOccurs (bytes_of_needles l.needles) l.bytes l.place;
}

abbrev pub decreases-loop-start : goal.decreases-loop-start
decreases-loop-start l = length l.bytes - l.place
