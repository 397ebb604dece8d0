use Rattle.std.proofs.Common.{◌≡◌, ◌++◌}
use Rattle.std.specs.Vec.Iter.{into_iter_items}
use Rattle.winnow_count.proofs.accumulate.accumulate_all.Given as goal

-- the accumulator holds the items that came so far, and they stand before those to come
abbrev pub invariant-loop-item : goal.invariant-loop-item
invariant-loop-item g l = record {
  front : l.yielded ++ into_iter_items l.item-iterator ≡ into_iter_items l.initial.item-iterator;
  held : g.A.Accumulate.holds l.accumulator l.yielded;
  can : (goal.iterator-loop-item g).can_next l.item-iterator;
  ends : (goal.iterator-loop-item g).is_finite l.item-iterator;
}
