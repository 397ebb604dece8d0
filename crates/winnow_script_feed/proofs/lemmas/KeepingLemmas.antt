-- What is kept: the least place that the steps name, more input appended, and a front dropped.
use Rattle.std.proofs.Common.{◌≡◌, ℕ, ◌+◌, ◌-◌, ◌≤◌, ◌<◌, min, true, false, List, [], ◌∷◌, ◌++◌, length, take, drop, map, refl, sym, ap, ◌∙◌, arith, subst, inl, inr, length-drop}
use Rattle.std.specs.Prelude.{is_some}
use Rattle.std.specs.List.{AllByRecursion}
use Rattle.std.proofs.lemmas.Bool.{cases_lt}
use Rattle.std.proofs.lemmas.List.{drop-drop, take-append-le, drop-append-le, length-append, drop_all}
use Rattle.winnow_stream.specs.Source.{Source, width, HasPositiveWidths}
use Rattle.winnow_stream.specs.Front.{is_offset, back}
use Rattle.winnow_stream.specs.Cursor.{Cursor, start, rest, place}
use Rattle.winnow_stream.proofs.lemmas.FrontLemmas.{front_count-place, back-place, HasPositiveWidths-drop, width-take_drop}
use Rattle.winnow_sets.specs.declared.char_set.CharSet.{CharSet}
use Rattle.winnow_script_run.specs.declared.search_steps.SearchStep.{SearchStep}
use Rattle.winnow_script_feed.specs.declared.progress.Progress.{Progress}
use Rattle.winnow_script_run.specs.Definite.{PieceReading}
use Rattle.winnow_script_feed.specs.Reach.{step_mark, named_index, least_index, needed_from, named_place, least_place, needed_place}
use Rattle.winnow_script_feed.specs.JoinedInput.{IsRunOver, StaysWithoutAnswer, KeepsLeast, steps_left, answers_out}
use Rattle.winnow_script_run.proofs.lemmas.MoreLemmas.{width-append}
use Rattle.winnow_script_run.proofs.lemmas.StepLemmas.{Inside, start-inside}
use Rattle.winnow_script_attempt.proofs.lemmas.SettledLemmas.{width-split}
use Rattle.winnow_script_attempt.proofs.lemmas.BegunLemmas.{settled-more}
use Rattle.winnow_script_attempt.proofs.lemmas.CursorLemmas.{mark-place}
use Rattle.winnow_script_feed.proofs.lemmas.ReachLemmas.{Reaches-inside, Reaches-more, Reaches-loose, least-at}

-- ---- places and indices

-- a greater index has no lesser place
place-monotone : {T : Type 0} (all : Source T) (i j : ℕ) → i ≤ j → place all i ≤ place all j
place-monotone all i j l = let e : i + (j - i) ≡ j = omega arith in omega (arith, ap (place all) e, width-split i (j - i) all)

-- the least of two places is the place of the least index
place-min : {T : Type 0} (all : Source T) (i j : ℕ)
    → min (place all i) (place all j) ≡ place all (min i j)
place-min all i j =
    elim (cases_lt i j) [
      | inl l ↦ let e : min i j ≡ i = omega arith in let m = place-monotone all i j (omega arith) in rw e (omega arith)
      | inr l ↦ let e : min i j ≡ j = omega arith in let m = place-monotone all j i l in rw e (omega arith)
    ]

module _ {T C L : Type 0} (all : Source T) (at : Cursor) where
  -- the place that a step names is the place of the index that it names
  named-same : (s : SearchStep C L)
      → named_place (place all at.index) (map (place all) at.marks) s ≡ place all (named_index at s)
  named-same s = mark-place all at (step_mark s)

  -- the least place is the place of the least index
  least-same : (steps : List (SearchStep C L))
      → least_place (place all at.index) (map (place all) at.marks) (place all at.index) steps
      ≡ place all (least_index steps at)
  least-same [] = refl
  least-same (s ∷ steps) = rw (named-same s, least-same steps) (place-min all (named_index at s) (least_index steps at))

  -- the place from which input is needed is the place of the index from which it is
  pub needed-same : (steps : List (SearchStep C L)) (end : ℕ) → end ≡ place all (length all)
      → needed_place end (place all at.index) (map (place all) at.marks) steps
      ≡ place all (needed_from all steps at)
  needed-same [] end e = e
  needed-same (s ∷ steps) end e = least-same (s ∷ steps)

  -- the index from which input is needed is inside the list
  pub needed-within : (steps : List (SearchStep C L)) → at.index ≤ length all
      → needed_from all steps at ≤ length all
  needed-within [] l = omega arith
  needed-within (s ∷ steps) l = omega (arith, least-at (s ∷ steps) at)

-- ---- the least place

-- the least place is no greater than the given one
pub least-below : {C L : Type 0} (at : ℕ) (marks : List ℕ) (least : ℕ)
    (steps : List (SearchStep C L))
    → least_place at marks least steps ≤ least
least-below at marks least [] = omega arith
least-below at marks least (s ∷ steps) = omega (arith, least-below at marks least steps)

-- no input is needed if there is none
pub needed-none : {C L : Type 0} (steps later : List (SearchStep C L))
    → needed_place 0 0 [] later ≡ 0
needed-none steps [] = refl
needed-none steps (s ∷ later) = omega (arith, least-below 0 [] 0 (s ∷ later))

-- if a step remains, what is needed does not depend on the end of the input
pub needed-same_end : {C L : Type 0} (end other at : ℕ) (marks : List ℕ)
    (steps : List (SearchStep C L)) → 0 < length steps
    → needed_place end at marks steps ≡ needed_place other at marks steps
needed-same_end end other at marks [] l = absurd (omega arith)
needed-same_end end other at marks (s ∷ steps) l = refl

-- if there are as many answers as steps, no step remains
pub needed-done : {T L : Type 0} (p : Progress T L) → length p.script.now ≤ length p.told.items
    → steps_left p ≡ []
needed-done p done = drop_all (length p.told.items) p.script.now done

-- the place of the end is the width of the list
place-end : {T : Type 0} (all : Source T) → place all (length all) ≡ width all
place-end all = omega (arith, width-take_drop all (length all), ap width (drop_all (length all) all (omega arith)))

-- ---- more input appended

-- marks inside the list keep their places with more input appended
places-more : {T : Type 0} (all more : Source T) (marks : List ℕ)
    → AllByRecursion (λ m. m ≤ length all) marks
    → map (place all) marks ≡ map (place (all ++ more)) marks
places-more all more [] h = refl
places-more all more (m ∷ marks) h =
    let e : place all m ≡ place (all ++ more) m = ap width (sym (take-append-le m all more h.0)) in
    rw (e, places-more all more marks h.1) refl

-- appended lists with positive widths have positive widths
pub HasPositiveWidths-append : {T : Type 0} (all more : Source T) → HasPositiveWidths all
    → HasPositiveWidths more → HasPositiveWidths (all ++ more)
HasPositiveWidths-append [] more h g = g
HasPositiveWidths-append (x ∷ all) more h g = (h.0, HasPositiveWidths-append all more h.1 g)

module _ {T L : Type 0} (k : PieceReading T CharSet L) (all kept : Source T) (p : Progress T L) (h : IsRunOver true k all kept p) where
  -- the cursor is inside the list
  pub stands-inside : Inside all h.at
  stands-inside = Reaches-inside k true all start h.at p.script.now (answers_out p) (start-inside all) h.reaches

  -- what is kept begins inside the list
  pub first-within : h.first ≤ length all
  first-within = let i = stands-inside.index in omega (arith, h.reached, needed-within all h.at (steps_left p) i)

  -- with more input appended, no earlier input is needed
  needed-more : (more : Source T) (steps : List (SearchStep CharSet L))
      → needed_from all steps h.at ≤ needed_from (all ++ more) steps h.at
  needed-more more [] = omega (arith, length-append all more)
  needed-more more (s ∷ steps) = omega arith

  -- the run stands for the input with more appended
  pub IsRunOver-more : (more : Source T) → HasPositiveWidths more
      → IsRunOver true k (all ++ more) (kept ++ more) p
  IsRunOver-more more w =
      let i = stands-inside in
      record {
        widths = HasPositiveWidths-append all more h.widths w;
        at = h.at;
        reaches = Reaches-more k all more start h.at p.script.now (answers_out p) (start-inside all) h.reaches;
        here = h.here ∙ ap width (sym (take-append-le h.at.index all more i.index));
        marked = h.marked ∙ places-more all more h.at.marks i.marks;
        first = h.first;
        reached = omega (arith, h.reached, needed-more more (steps_left p));
        based = h.based ∙ ap width (sym (take-append-le h.first all more first-within));
        is_kept = ap (λ r. r ++ more) h.is_kept ∙ sym (drop-append-le h.first all more first-within);
        settled = λ s e.
            let r : drop h.at.index (all ++ more) ≡ rest all h.at ++ more = drop-append-le h.at.index all more i.index in
            rw r (settled-more k s (rest all h.at) more p.settled (h.settled s e));
      }

  -- a run without remaining steps stands for the input with a piece of which nothing is kept
  pub IsRunOver-skips : (more : Source T) → HasPositiveWidths more → steps_left p ≡ []
      → (q : Progress T L) (t : Source T) → t ≡ [] → q.script ≡ p.script → q.told ≡ p.told
      → q.place ≡ p.place → q.marks ≡ p.marks → q.settled ≡ p.settled
      → q.base ≡ place all (length all) + width more → IsRunOver true k (all ++ more) t q
  IsRunOver-skips more w none q t gone script told here marks settled based =
      let m = IsRunOver-more more w in
      let len = length-append all more in
      record {
        widths = m.widths;
        at = m.at;
        reaches = rw (script, told) m.reaches;
        here = here ∙ m.here;
        marked = ap (λ x. x.items) marks ∙ m.marked;
        first = length (all ++ more);
        reached = let e : steps_left q ≡ [] = rw (script, told) none in rw e (omega arith);
        based = based ∙ omega (arith, place-end all, place-end (all ++ more), width-append all more);
        is_kept = gone ∙ sym (drop_all (length (all ++ more)) (all ++ more) (omega arith));
        settled = λ s i. rw settled (m.settled s (rw (script, told) at i));
      }

  -- ---- a front dropped

  -- the end of what is kept is the end of the list
  pub end-is : p.base + width kept ≡ place all (length all)
  end-is = omega (arith, h.based, ap width h.is_kept, width-take_drop all h.first, width-take_drop all (length all), ap width (drop_all (length all) all (omega arith)))

  -- the place of a kept index is the base and the width of the kept tokens before it
  far : (n : ℕ) → h.first ≤ n → place all n ≡ p.base + width (take (n - h.first) kept)
  far n l =
      let e : h.first + (n - h.first) ≡ n = omega arith in
      ap (place all) (sym e) ∙ width-split h.first (n - h.first) all ∙ rw (h.based, h.is_kept) refl

  -- what remains of the kept tokens at a place is the list from its index on
  kept-back : (n : ℕ) → h.first ≤ n → n ≤ length all → back kept (place all n - p.base) ≡ drop n all
  kept-back n l m =
      let f = far n l in
      let e : place all n - p.base ≡ width (take (n - h.first) kept) = omega arith in
      let w : HasPositiveWidths kept = subst HasPositiveWidths (sym h.is_kept) (HasPositiveWidths-drop h.first all h.widths) in
      let len : n - h.first ≤ length kept = omega (arith, ap length h.is_kept, length-drop h.first all) in
      let s : h.first + (n - h.first) ≡ n = omega arith in
      ap (back kept) e ∙ back-place kept (n - h.first) w len ∙ ap (drop (n - h.first)) h.is_kept ∙ drop-drop (n - h.first) h.first all ∙ ap (λ i. drop i all) s

  -- the distance from the base to a kept place is a valid offset
  kept-is_offset : (n : ℕ) → h.first ≤ n → n ≤ length all
      → is_offset kept (place all n - p.base) ≡ true
  kept-is_offset n l m =
      let f = far n l in
      let e : place all n - p.base ≡ width (take (n - h.first) kept) = omega arith in
      let w : HasPositiveWidths kept = subst HasPositiveWidths (sym h.is_kept) (HasPositiveWidths-drop h.first all h.widths) in
      let len : n - h.first ≤ length kept = omega (arith, ap length h.is_kept, length-drop h.first all) in
      subst (λ v. is_offset kept v ≡ true) (sym e) (ap is_some (front_count-place kept (n - h.first) w len))

  -- the same for the place from which input is needed
  pub least-offset : is_offset kept (place all (needed_from all (steps_left p) h.at) - p.base)
      ≡ true
  least-offset = kept-is_offset (needed_from all (steps_left p) h.at) h.reached (needed-within all h.at (steps_left p) stands-inside.index)

  -- that place is the one that the code computes
  pub place-kept : (end : ℕ) → end ≡ p.base + width kept
      → needed_place end p.place p.marks.items (steps_left p)
      ≡ place all (needed_from all (steps_left p) h.at)
  place-kept end e = rw (h.here, h.marked) (needed-same all h.at (steps_left p) end (e ∙ end-is))

  -- that place is no earlier than the base
  pub least-low : p.base ≤ place all (needed_from all (steps_left p) h.at)
  least-low = let m = place-monotone all h.first (needed_from all (steps_left p) h.at) h.reached in omega (arith, m, h.based)

  -- the bytes that were fed are as many as the list is wide
  pub fed-is : p.base + width kept ≡ width all
  fed-is = omega (arith, h.based, ap width h.is_kept, width-take_drop all h.first)

  -- a run that drops the front before what is needed stands for the same input
  pub IsRunOver-forgets : (q : Progress T L) (t : Source T) (least : ℕ)
      → least ≡ place all (needed_from all (steps_left p) h.at) → t ≡ back kept (least - p.base)
      → q.script ≡ p.script → q.told ≡ p.told → q.place ≡ p.place → q.marks ≡ p.marks
      → q.settled ≡ p.settled → q.base ≡ least → IsRunOver true k all t q
  IsRunOver-forgets q t least is left script told here marks settled based =
      let n = needed_from all (steps_left p) h.at in
      let e : t ≡ drop n all = left ∙ ap (λ m. back kept (m - p.base)) is ∙ kept-back n h.reached (needed-within all h.at (steps_left p) stands-inside.index) in
      record {
        widths = h.widths;
        at = h.at;
        reaches = rw (script, told) h.reaches;
        here = here ∙ h.here;
        marked = ap (λ m. m.items) marks ∙ h.marked;
        first = n;
        reached = rw (script, told) (omega arith);
        based = based ∙ is;
        is_kept = e;
        settled = λ s i. rw settled (h.settled s (rw (script, told) at i));
      }

  -- ---- the front that is not needed

  module _ (end least : ℕ) (is_end : end ≡ p.base + width kept) (is_least : least ≡ needed_place end p.place p.marks.items (steps_left p)) where
    -- the least place is the place of the index from which input is needed
    least-is : least ≡ place all (needed_from all (steps_left p) h.at)
    least-is = is_least ∙ place-kept end is_end

    -- the front before it may be dropped, and the run stands for the same input
    pub least-from : p.base ≤ least
    least-from = omega (arith, least-is, least-low)

    pub unneeded-offset : is_offset kept (least - p.base) ≡ true
    unneeded-offset = subst (λ n. is_offset kept (n - p.base) ≡ true) (sym least-is) least-offset

    pub IsRunOver-needed : (q : Progress T L) → q.script ≡ p.script → q.told ≡ p.told
        → q.place ≡ p.place → q.marks ≡ p.marks → q.settled ≡ p.settled → q.base ≡ least
        → IsRunOver true k all (back kept (least - p.base)) q
    IsRunOver-needed q script told here marks settled based = IsRunOver-forgets q (back kept (least - p.base)) least least-is refl script told here marks settled based

-- if no answer was added, the same input is needed as before
pub least-still : {T L : Type 0} (p q : Progress T L) (end : ℕ) → KeepsLeast end p
    → q.script ≡ p.script → q.base ≡ p.base → StaysWithoutAnswer p q
    → length q.told.items ≡ length p.told.items → KeepsLeast end q
least-still p q end least script base still same = let s = still same in rw (base, s.0, s.1, script, same) least

-- a run that stands for an input stands for it where indefinite answers count too
pub IsRunOver-loose : {T L : Type 0} (k : PieceReading T CharSet L) (all kept : Source T)
    (p : Progress T L) → IsRunOver true k all kept p → IsRunOver false k all kept p
IsRunOver-loose k all kept p h = record {
  widths = h.widths;
  at = h.at;
  reaches = Reaches-loose k all start h.at p.script.now (answers_out p) h.reaches;
  here = h.here;
  marked = h.marked;
  first = h.first;
  reached = h.reached;
  based = h.based;
  is_kept = h.is_kept;
  settled = h.settled;
}
