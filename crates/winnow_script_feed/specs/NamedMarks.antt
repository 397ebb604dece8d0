-- The marks that steps without an answer name, as a feed keeps them.
use Rattle.std.specs.Prelude.{◌≡◌, ℕ, suc, ◌≤◌, ◌<◌, nat_lt, if◌then◌else◌, List, length, set, Option, None, Some, get_or, slice_get}
use Rattle.std.specs.List.{All, Contains}
use Rattle.std.specs.declared.cmp.Ordering.{Ordering}
use Rattle.std.specs.declared.cmp.Reverse.{Reverse}
use Rattle.std.specs.Ordering.{nat_cmp, ordering_then}
use Rattle.std.specs.BinaryHeap.{IsHeap, heap_items, heap_capacity}
use Rattle.winnow_script_run.specs.declared.search_steps.SearchStep.{SearchStep}
use Rattle.winnow_script_feed.specs.declared.named_marks.NamedMarks.{NamedMarks}
use Rattle.winnow_script_feed.specs.Reach.{step_mark}

-- step i names mark k
pub record Names {C L : Type 0} (steps : List (SearchStep C L)) (i k : ℕ) : Type 0 where
  pub step : SearchStep C L
  pub is : slice_get steps i ≡ Some step
  pub names : step_mark step ≡ Some k

-- the ends of the marks that the first n steps name: of each, the number of steps up to the last
-- that names it, or 0
pub record AreEnds {C L : Type 0} (steps : List (SearchStep C L)) (n : ℕ) (ends : List ℕ) : Type 0 where
  pub named : (k e : ℕ) → get_or ends k 0 ≡ suc e → Names steps e k
  pub last : (i k : ℕ) → i < n → k < length ends → Names steps i k → i < get_or ends k 0

-- the ends, once one of them is changed
abbrev pub ended : List ℕ → Option ℕ → ℕ → List ℕ
ended ends None end = ends
ended ends (Some k) end = if nat_lt k (length ends) then set ends k end else ends

-- the place and the end of a mark, in a queue whose first is the one at the least place
abbrev pub Entry : Type 0
Entry = Reverse (ℕ × ℕ)

-- the entry with a place and an end
abbrev pub entry : ℕ → ℕ → Entry
entry place end = record { 0 = (place, end) }

-- the order of entries: the greatest is at the least place
abbrev pub by_place : Entry → Entry → Ordering
by_place x y = ordering_then (nat_cmp y.0.0 x.0.0) (nat_cmp y.0.1 x.0.1)

-- an entry has the place and the end of some mark
pub record IsEntry (ends marks : List ℕ) (e : Entry) : Type 0 where
  pub k : ℕ
  pub place : slice_get marks k ≡ Some e.0.0
  pub end : get_or ends k 0 ≡ e.0.1

module _ (ends marks : List ℕ) (told : ℕ) where
  -- a step from number `told` on names mark k, whose place is p
  abbrev pub IsNamed : ℕ → ℕ → Type 0
  IsNamed k p = (slice_get marks k ≡ Some p) × (told < get_or ends k 0)

  -- the queue has each of the first `seen` marks that a step from number `told` on names
  pub record Queues (seen : ℕ) (queue : List Entry) : Type 0 where
    pub entries : All (IsEntry ends marks) queue
    pub named : (k p : ℕ) → k < seen → IsNamed k p → Contains queue (entry p (get_or ends k 0))
    pub order : IsHeap by_place queue
    pub few : length queue ≤ seen
    pub within : seen ≤ length marks

  -- the least place of the first `seen` marks that a step from number `told` on names
  abbrev pub IsLeastNamed : ℕ → Option ℕ → Type 0
  IsLeastNamed seen None = (k p : ℕ) → k < seen → ¬ (IsNamed k p)
  IsLeastNamed seen (Some least) = ((k : ℕ) × IsNamed k least) × ((k p : ℕ) → k < seen → IsNamed k p → least ≤ p)

-- what a feed knows of the marks that steps from number `told` on name
pub record KnowsMarks {C L : Type 0} (steps : List (SearchStep C L)) (marks : List ℕ) (told : ℕ) (named : NamedMarks) : Type 0 where
  pub ends : AreEnds steps (length steps) named.ends.items
  pub one_each : length named.ends.items ≡ length steps
  pub queues : Queues named.ends.items marks told named.seen (heap_items named.queue)
  pub room : length steps ≤ heap_capacity named.queue
