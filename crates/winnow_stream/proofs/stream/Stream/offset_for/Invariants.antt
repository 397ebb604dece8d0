use Rattle.std.proofs.Common.{◌≡◌, Bool, List, ℕ}
use Rattle.winnow_stream.specs.Source.{first_held, offsets}
use Rattle.winnow_stream.proofs.lemmas.FirstTokenLemmas.{ahead, Gave, HasRefused, left_with}
use Rattle.winnow_stream.proofs.stream.Stream.offset_for.Given as goal

abbrev pub invariant-loop-next : goal.invariant-loop-next
invariant-loop-next g l =
    (later : List (ℕ × g.row.Self-Token.Denot))
    ×
    (Gave g.Self.IterOffsets.Iterator.next_gives g.Self.IterOffsets.Iterator.can_next
    g.Self.IterOffsets.Iterator.remaining l.next later l.items
    × ((q : _ → Bool) → ((x : _) (b : Bool) → goal.P-post g l.predicate x b → b ≡ q x)
    → first_held q (offsets (g.Self.Stream.remaining l.self)) ≡ first_held q (ahead l.next later))
    × HasRefused (goal.P-post g l.predicate) (g.Self.Stream.remaining l.self) (ahead l.next later))

abbrev pub decreases-loop-next : goal.decreases-loop-next
decreases-loop-next g l = left_with g.Self.IterOffsets.Iterator.remaining l.next l.items
