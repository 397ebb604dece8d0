-- Marks that remaining steps name: the least of their places, and the queue of them.
use Rattle.std.proofs.Common.{◌≡◌, ℕ, zero, suc, ◌+◌, ◌-◌, ◌≤◌, ◌<◌, min, false, List, [], ◌∷◌, ◌++◌, length, length-append, length-drop, drop, get_or, All, Contains, IsPermutation, refl, sym, ap, ◌∙◌, arith, inl, inr, ◌⊎◌, subst}
use Rattle.std.specs.Prelude.{Option, None, Some, unwrap_or, slice_get}
use Rattle.std.proofs.lemmas.Bool.{cases_lt, cases_eq, lt-ltb, true≢false}
use Rattle.std.proofs.lemmas.List.Elements.{All-nil, All-cons, All-tail, All-weaker, All-contains}
use Rattle.std.proofs.lemmas.List.Sorted.{All-permutation, Contains-permutation, length_permutation}
use Rattle.std.proofs.lemmas.Option.{none-some, same_Some, slice_get_within}
use Rattle.std.specs.BinaryHeap.{heap_items, IsUpperBound, KeepsHeap}
use Rattle.std.specs.declared.cmp.Ordering.{Ordering}
use Rattle.std.specs.Ordering.{is_lt, nat_cmp, ordering_then}
use Rattle.winnow_script_run.specs.Needs.{mark_of}
use Rattle.winnow_script_run.specs.declared.search_steps.SearchStep.{SearchStep}
use Rattle.winnow_script_feed.specs.Reach.{step_mark, named_place, least_place, needed_place}
use Rattle.winnow_script_feed.specs.NamedMarks.{Names, AreEnds, Entry, entry, by_place, IsEntry, IsNamed, Queues, IsLeastNamed, KnowsMarks}
use Rattle.winnow_script_feed.specs.declared.named_marks.NamedMarks.{NamedMarks}
use Rattle.winnow_script_feed.proofs.lemmas.KeepingLemmas.{least-below}

-- ---- the least place

-- what no place is below, is not above the place of an option
place-above : (m at : ℕ) (o : Option ℕ) → m ≤ at → ((p : ℕ) → o ≡ Some p → m ≤ p)
    → m ≤ unwrap_or o at
place-above m at None l each = l
place-above m at (Some p) l each = each p refl

mark-above : (m at : ℕ) (marks : List ℕ) (mark : Option ℕ) → m ≤ at
    → ((k p : ℕ) → mark ≡ Some k → slice_get marks k ≡ Some p → m ≤ p)
    → m ≤ unwrap_or (mark_of marks mark) at
mark-above m at marks None l each = l
mark-above m at marks (Some k) l each = place-above m at (slice_get marks k) l (λ p e. each k p refl e)

module _ {C L : Type 0} (at : ℕ) (marks : List ℕ) where
  -- the least place is not above the place of a mark that a step names
  named-below : (least : ℕ) (steps : List (SearchStep C L)) (i k p : ℕ) → Names steps i k
      → slice_get marks k ≡ Some p → least_place at marks least steps ≤ p
  named-below least [] i k p n e = absurd (none-some n.step n.is)
  named-below least (s ∷ steps) zero k p n e =
      let named : step_mark s ≡ Some k = ap step_mark (same_Some s n.step n.is) ∙ n.names in
      let here : named_place at marks s ≡ p = ap (λ m. unwrap_or (mark_of marks m) at) named ∙ ap (λ o. unwrap_or o at) e in
      omega (arith, here)
  named-below least (s ∷ steps) (suc i) k p n e =
      let later = named-below least steps i k p (record { step = n.step; is = n.is; names = n.names }) e in
      omega (arith, later)

  -- what is not above the places of all marks that steps name, is not above the least place
  above-all : (m least : ℕ) (steps : List (SearchStep C L)) → m ≤ least → m ≤ at
      → ((i k p : ℕ) → Names steps i k → slice_get marks k ≡ Some p → m ≤ p)
      → m ≤ least_place at marks least steps
  above-all m least [] l a each = l
  above-all m least (s ∷ steps) l a each =
      let here : m ≤ named_place at marks s = mark-above m at marks (step_mark s) a (λ k p names e. each 0 k p (record { step = s; is = refl; names = names }) e) in
      let later = above-all m least steps l a (λ i k p n e. each (suc i) k p (record { step = n.step; is = n.is; names = n.names }) e) in
      omega (arith, here, later)

-- an element of a rest is a later element of the list
slice_get-drop : {X : Type 0} (n i : ℕ) (xs : List X)
    → slice_get (drop n xs) i ≡ slice_get xs (n + i)
slice_get-drop zero i xs = let e : i ≡ 0 + i = omega arith in ap (slice_get xs) e
slice_get-drop (suc n) i [] = refl
slice_get-drop (suc n) i (x ∷ xs) = let e : suc (n + i) ≡ suc n + i = omega arith in slice_get-drop n i xs ∙ ap (slice_get (x ∷ xs)) e

-- if a step remains, what is needed does not depend on the end of the input
needed-least : {C L : Type 0} (end at : ℕ) (marks : List ℕ) (steps : List (SearchStep C L))
    → 0 < length steps → needed_place end at marks steps ≡ least_place at marks at steps
needed-least end at marks [] l = absurd (omega arith)
needed-least end at marks (s ∷ steps) l = refl

module _ {C L : Type 0} (steps : List (SearchStep C L)) (ends marks : List ℕ) (told at : ℕ) (h : AreEnds steps (length steps) ends) (made : length marks ≤ length ends) where
  -- a mark that a remaining step names is named from `told` on
  is-named : (i k p : ℕ) → Names (drop told steps) i k → slice_get marks k ≡ Some p
      → IsNamed ends marks told k p
  is-named i k p n e =
      let is : slice_get steps (told + i) ≡ Some n.step = sym (slice_get-drop told i steps) ∙ n.is in
      let l = slice_get_within steps (told + i) n.step is in
      let m = slice_get_within marks k p e in
      let last = h.last (told + i) k l (omega (arith, m, made)) (record { step = n.step; is = is; names = n.names }) in
      (e, omega (arith, last))

  -- without a named mark, the remaining steps need the input from the cursor on
  pub needed-none_named : (end : ℕ) → told < length steps
      → IsLeastNamed ends marks told (length marks) None
      → needed_place end at marks (drop told steps) ≡ at
  needed-none_named end left none =
      let above = above-all at marks at at (drop told steps) (omega arith) (omega arith) (λ i k p n e. absurd (none k p (slice_get_within marks k p e) (is-named i k p n e))) in
      needed-least end at marks (drop told steps) (omega (arith, left, length-drop told steps)) ∙ omega (arith, above, least-below at marks at (drop told steps))

  -- with one, they need it from the lesser of the cursor and the least of their places
  pub needed-least_named : (end m : ℕ) → told < length steps
      → IsLeastNamed ends marks told (length marks) (Some m)
      → needed_place end at marks (drop told steps) ≡ min m at
  needed-least_named end m left least =
      let k = least.0.0 in
      let one = least.0.1 in
      let e = get_or ends k 0 - 1 in
      let n = h.named k e (omega (arith, one.1)) in
      let i : told + (e - told) ≡ e = omega (arith, one.1) in
      let is : slice_get (drop told steps) (e - told) ≡ Some n.step = slice_get-drop told (e - told) steps ∙ ap (slice_get steps) i ∙ n.is in
      let below = named-below at marks at (drop told steps) (e - told) k m (record { step = n.step; is = is; names = n.names }) one.0 in
      let above = above-all at marks (min m at) at (drop told steps) (omega arith) (omega arith) (λ i k p n e. let l = least.1 k p (slice_get_within marks k p e) (is-named i k p n e) in omega (arith, l)) in
      needed-least end at marks (drop told steps) (omega (arith, left, length-drop told steps)) ∙ omega (arith, above, below, least-below at marks at (drop told steps))

-- ---- the queue

-- an element of a longer list is its first or one of the rest
Contains-cons : {X : Type 0} (x y : X) (xs : List X) → Contains xs y → Contains (x ∷ xs) y
Contains-cons x y xs h = (suc h.0, omega (arith, h.1), h.2)

Contains-head : {X : Type 0} (x : X) (xs : List X) → Contains (x ∷ xs) x
Contains-head x xs = (0, omega arith, refl)

Contains-split : {X : Type 0} (x y : X) (xs : List X) → Contains (x ∷ xs) y
    → (x ≡ y) ⊎ Contains xs y
Contains-split x y xs (zero, l, e) = inl e
Contains-split x y xs (suc k, l, e) = inr (k, omega (arith, l), e)

first-contained : {X : Type 0} (xs : List X) (x : X) → slice_get xs 0 ≡ Some x → Contains xs x
first-contained [] x e = absurd (none-some x e)
first-contained (y ∷ xs) x e = (0, omega arith, same_Some y x e)

empty-lacks : {X : Type 0} (xs : List X) (x : X) → slice_get xs 0 ≡ None → Contains xs x → ⊥
empty-lacks [] x e h = omega (arith, h.1)
empty-lacks (y ∷ xs) x e h = none-some y (sym e)

-- an element of a list is that of each longer list
slice_get-append : {X : Type 0} (xs ys : List X) (k : ℕ) (x : X) → slice_get xs k ≡ Some x
    → slice_get (xs ++ ys) k ≡ Some x
slice_get-append [] ys k x e = absurd (none-some x e)
slice_get-append (y ∷ xs) ys zero x e = e
slice_get-append (y ∷ xs) ys (suc k) x e = slice_get-append xs ys k x e

-- of marks that are made or not, those that were made have their places
slice_get-before : {X : Type 0} (xs ys : List X) (k : ℕ) (x : X) → k < length xs
    → slice_get (xs ++ ys) k ≡ Some x → slice_get xs k ≡ Some x
slice_get-before [] ys k x l e = absurd (omega arith)
slice_get-before (y ∷ xs) ys zero x l e = e
slice_get-before (y ∷ xs) ys (suc k) x l e = slice_get-before xs ys k x (omega arith) e

-- a number that is not less is at least as great
not-before : (a b : ℕ) (o : Ordering) → is_lt (ordering_then (nat_cmp a b) o) ≡ false → b ≤ a
not-before a b o h =
    elim (cases_lt a b) [
      | inl l ↦ absurd (true≢false (rw (lt-ltb a b l) at h))
      | inr l ↦ l
    ]

-- the first of the queue has the least place
pub least-first : (x : Entry) (xs : List Entry) → IsUpperBound by_place x xs
    → All (λ y. x.0.0 ≤ y.0.0) xs
least-first x [] h = All-nil (λ y. x.0.0 ≤ y.0.0)
least-first x (y ∷ xs) h = All-cons (λ z. x.0.0 ≤ z.0.0) y xs (not-before y.0.0 x.0.0 (nat_cmp y.0.1 x.0.1) h.0) (least-first x xs h.1)

module _ (ends marks : List ℕ) (told : ℕ) (seen : ℕ) (q : List Entry) (h : Queues ends marks told seen q) where
  -- one more mark, that is named
  pub Queues-push : (p end : ℕ) (r : List Entry) → slice_get marks seen ≡ Some p
      → get_or ends seen 0 ≡ end → IsPermutation (entry p end ∷ q) r → KeepsHeap by_place q r
      → Queues ends marks told (seen + 1) r
  Queues-push p end r e is perm keeps = record {
    entries = All-permutation (IsEntry ends marks) (entry p end ∷ q) r perm (All-cons (IsEntry ends marks) (entry p end) q (record { k = seen; place = e; end = is }) h.entries);
    named = λ k x l n.
        Contains-permutation (entry p end ∷ q) r (entry x (get_or ends k 0)) perm (elim (cases_eq k seen) [
          | inl same ↦
              let px : p ≡ x = same_Some p x (sym e ∙ ap (slice_get marks) (sym same) ∙ n.0) in
              let pe : end ≡ get_or ends k 0 = sym is ∙ ap (λ j. get_or ends j 0) (sym same) in
              subst (λ c. Contains (entry p end ∷ q) c) (ap (λ y. entry y end) px ∙ ap (entry x) pe) (Contains-head (entry p end) q)
          | inr other ↦ Contains-cons (entry p end) (entry x (get_or ends k 0)) q (h.named k x (omega (arith, l, other)) n)
        ]);
    order = keeps h.order;
    few = omega (arith, length_permutation (entry p end ∷ q) r perm, h.few);
    within = let l = slice_get_within marks seen p e in omega (arith, l);
  }

  -- the first of the queue leaves, since no step names it any more
  pub Queues-pop : (x : Entry) (r : List Entry) → x.0.1 ≤ told → IsPermutation q (x ∷ r)
      → KeepsHeap by_place q r → Queues ends marks told seen r
  Queues-pop x r past perm keeps = record {
    entries = All-tail (IsEntry ends marks) x r (All-permutation (IsEntry ends marks) q (x ∷ r) perm h.entries);
    named = λ k p l n. elim (Contains-split x (entry p (get_or ends k 0)) r (Contains-permutation q (x ∷ r) (entry p (get_or ends k 0)) perm (h.named k p l n))) [
      | inl same ↦ absurd (omega (arith, n.1, past, ap (λ c. c.0.1) same))
      | inr rest ↦ rest
    ];
    order = keeps h.order;
    few = omega (arith, length_permutation q (x ∷ r) perm, h.few);
    within = h.within;
  }

  -- more answers, and more marks that were not considered yet
  pub Queues-on : (more : List ℕ) (later : ℕ) → told ≤ later
      → Queues ends (marks ++ more) later seen q
  Queues-on more later l = record {
    entries = All-weaker (IsEntry ends marks) (IsEntry ends (marks ++ more)) (λ e is. record { k = is.k; place = slice_get-append marks more is.k e.0.0 is.place; end = is.end }) q h.entries;
    named = λ k p m n. h.named k p m (slice_get-before marks more k p (omega (arith, m, h.within)) n.0, omega (arith, n.1, l));
    order = h.order;
    few = h.few;
    within = omega (arith, h.within, length-append marks more);
  }

  -- the first of the queue, if a step names it, has the least place
  pub least-of-queue : (x : Entry) → slice_get q 0 ≡ Some x → All (λ e. x.0.0 ≤ e.0.0) q
      → told < x.0.1 → IsLeastNamed ends marks told seen (Some x.0.0)
  least-of-queue x is least live =
      let at : Contains q x = first-contained q x is in
      let e = All-contains (IsEntry ends marks) q x h.entries at in
      ((e.k, (e.place, omega (arith, e.end, live))), λ k p l n. All-contains (λ e. x.0.0 ≤ e.0.0) q (entry p (get_or ends k 0)) least (h.named k p l n))

  -- no mark is named if the queue is empty
  pub none-in-queue : slice_get q 0 ≡ None → IsLeastNamed ends marks told seen None
  none-in-queue is k p l n = let c = h.named k p l n in empty-lacks q (entry p (get_or ends k 0)) is c

-- with more answers and more marks, a feed knows the same of the steps that remain
pub KnowsMarks-on : {C L : Type 0} (steps : List (SearchStep C L)) (marks : List ℕ) (told : ℕ)
    (named : NamedMarks) → KnowsMarks steps marks told named
    → (script : List (SearchStep C L)) (made : List ℕ) (later : ℕ) (more : List ℕ)
    → script ≡ steps → made ≡ marks ++ more → told ≤ later → KnowsMarks script made later named
KnowsMarks-on steps marks told named h script made later more same e l = record {
  ends = subst (λ ss. AreEnds ss (length ss) named.ends.items) (sym same) h.ends;
  one_each = h.one_each ∙ ap length (sym same);
  queues = subst (λ ms. Queues named.ends.items ms later named.seen (heap_items named.queue)) (sym e) (Queues-on named.ends.items marks told named.seen (heap_items named.queue) h.queues more later l);
  room = omega (arith, h.room, ap length same);
}
