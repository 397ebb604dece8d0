use Rattle.std.proofs.Common.{◌≡◌, ℕ, List, heap_items, heap_len}
use Rattle.std.specs.BinaryHeap.{heap_capacity}
use Rattle.winnow_script_feed.specs.NamedMarks.{Queues}
use Rattle.winnow_script_feed.proofs.named_marks.first_named.Given as goal

abbrev pub invariant-loop-place : goal.invariant-loop-place
invariant-loop-place l = record {
  queues : (ends marks : List ℕ) (seen : ℕ)
      → Queues ends marks l.told seen (heap_items l.initial.queue)
      → Queues ends marks l.told seen (heap_items l.queue);
  capacity : heap_capacity l.queue ≡ heap_capacity l.initial.queue;
}

abbrev pub decreases-loop-place : goal.decreases-loop-place
decreases-loop-place l = heap_len l.queue
