use Rattle.std.proofs.Common.{◌≡◌, ◌≤◌, ◌-◌, length, heap_items}
use Rattle.std.specs.BinaryHeap.{heap_capacity}
use Rattle.winnow_script_feed.specs.NamedMarks.{Queues}
use Rattle.winnow_script_feed.proofs.named_marks.NamedMarks.see.Given as goal

abbrev pub invariant-loop-self : goal.invariant-loop-self
invariant-loop-self l = record {
  queues : Queues l.self.ends.items l.marks l.told l.self.seen (heap_items l.self.queue);
  ends : l.self.ends ≡ l.initial.self.ends;
  capacity : heap_capacity l.initial.self.queue ≤ heap_capacity l.self.queue;
}

abbrev pub decreases-loop-self : goal.decreases-loop-self
decreases-loop-self l = length l.marks - l.self.seen
