use Rattle.std.proofs.Common.{◌≡◌, ◌++◌, ◌+◌, ◌≤◌, length, take}
use Rattle.std.specs.VecDeque.{deque_len, deque_capacity}
use Rattle.winnow_count.proofs.accumulators.vectors.append.Given as goal

-- the items that came so far are in the queue, which has room for the others
abbrev pub invariant-loop-item : goal.invariant-loop-item
invariant-loop-item g l = record {
  items : l.queue.items ≡ l.initial.queue.items ++ take l.item-index l.slice;
  len : deque_len l.queue ≡ deque_len l.initial.queue + l.item-index;
  room : deque_len l.initial.queue + length l.slice ≤ deque_capacity l.queue;
}
