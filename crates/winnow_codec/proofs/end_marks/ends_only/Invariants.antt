use Rattle.std.proofs.Common.{take}
use Rattle.winnow_codec.specs.EndMarks.{EndsOnly}
use Rattle.winnow_codec.proofs.end_marks.ends_only.Given as goal

abbrev pub invariant-loop-end : goal.invariant-loop-end
invariant-loop-end l = EndsOnly l.mark (take l.end l.bytes)
