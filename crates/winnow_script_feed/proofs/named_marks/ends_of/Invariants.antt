use Rattle.std.proofs.Common.{◌≡◌, ◌-◌, length}
use Rattle.winnow_script_feed.specs.NamedMarks.{AreEnds}
use Rattle.winnow_script_feed.proofs.named_marks.ends_of.Given as goal

abbrev pub invariant-loop-i : goal.invariant-loop-i
invariant-loop-i g l = record {
  ends : AreEnds l.script l.i l.ends.items;
  len : length l.ends.items ≡ length l.script;
}

abbrev pub decreases-loop-i : goal.decreases-loop-i
decreases-loop-i g l = length l.script - l.i
