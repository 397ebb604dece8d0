-- What each step answers, and the state that it leaves, when a run stands at the cursor.
use Rattle.std.proofs.Common.{◌≡◌, ℕ, ◌+◌, ◌-◌, ◌≤◌, ◌<◌, leb, Bool, true, false, List, [], ◌∷◌, ◌++◌, length, take, drop, refl, ap, sym, ◌∙◌, arith, Option, Some, None, inl, inr, length-drop}
use Rattle.std.specs.Prelude.{slice_get, is_some, IfSome}
use Rattle.std.proofs.lemmas.Bool.Decides.{nat_tests}
use Rattle.std.proofs.lemmas.Bool.{cases_lt, le-leb}
use Rattle.std.proofs.lemmas.List.{drop-drop, drop_all}
use Rattle.std.proofs.lemmas.Slice.Zip.{AllZip-long}
use Rattle.winnow_stream.specs.Source.{Source, width, offsets}
use Rattle.winnow_stream.specs.Front.{front_count, is_offset, count_to, front, back, part}
use Rattle.winnow_stream.specs.Cursor.{Cursor, rest, place}
use Rattle.winnow_stream.specs.Span.{span}
use Rattle.winnow_stream.proofs.lemmas.FrontLemmas.{back-place, front-whole, HasPositiveWidths-drop, back-drop, within-back, front_count-found, front_count-missing, front_count-place, width-take_drop}
use Rattle.winnow_script_run.specs.Script.{step_next}
use Rattle.winnow_stream.specs.Location.{location_behind}
use Rattle.winnow_script_run.specs.RunState.{RunState, StandsAt, IsMarkAt, IsInReach, AreLocated}
use Rattle.winnow_script_run.specs.Searching.{IsSearchInReach}
use Rattle.winnow_script_run.specs.declared.script.Step.{Step}
use Rattle.winnow_script_run.specs.declared.script.Step.TheVariants.{Next, Take, Finish, Mark, Reset}
use Rattle.winnow_script_run.specs.declared.search_steps.SearchStep.{SearchStep}
use Rattle.winnow_script_run.specs.declared.search_steps.SearchStep.TheVariants as search
use Rattle.winnow_script_run.proofs.lemmas.PlaceLemmas.{drop-next, width-later, width-antitone}
use Rattle.winnow_script_run.proofs.lemmas.PairLemmas.{AllZip-more, AllZip-found, AllZip-missing}

-- ---- places in the whole input

-- a width of 0 leaves a location as it is
pub behind-none : (whole : Option ℕ) (n : ℕ) → n ≡ 0 → whole ≡ location_behind whole n
behind-none None n e = refl
behind-none (Some p) n e = let f : p ≡ p + n = omega (arith, e) in ap Some f

-- two widths, one after the other, move a location by their sum
behind-on : (whole : Option ℕ) (n w m : ℕ) → n + w ≡ m
    → location_behind (location_behind whole n) w ≡ location_behind whole m
behind-on None n w m e = refl
behind-on (Some p) n w m e = let f : p + n + w ≡ p + m = omega (arith, e) in ap Some f

-- ---- marks in reach of an origin at the list's start

-- each mark is at or after an origin at place 0
found-in-reach : (mark : Option ℕ) (base : ℕ) → base ≡ 0 → IfSome mark (λ m. base ≤ m)
found-in-reach None base e = tt
found-in-reach (Some m) base e = omega arith

-- a step is in reach if the origin is at place 0
pub reach-start : {C T : Type 0} (step : Step C) (here : RunState T) → here.base ≡ 0
    → IsInReach step here
reach-start (Reset k) here e = found-in-reach (slice_get here.marks k) here.base e
reach-start _ here e = tt

pub reach_search-start : {C T L : Type 0} (step : SearchStep C L) (here : RunState T)
    → here.base ≡ 0 → IsSearchInReach step here
reach_search-start (search.Call call) here e = reach-start call here e
reach_search-start (search.Compare literal) here e = tt
reach_search-start (search.Find needles) here e = tt

module _ {T : Type 0} (here : RunState T) (all : Source T) (at : Cursor) (h : StandsAt here all at) where
  -- a slice of what remains is the slice of the list at the cursor's place
  pub slice-place : {S : Type 0} (is_slice : S → Source T → ℕ → Type 0) (n m : ℕ) (s : S) → m ≡ n
      → is_slice s here.rest n → is_slice s (back all (width (take at.index all))) m
  slice-place is_slice n m s e k = rw (back-place all at.index h.widths h.within) (rw e (rw (← h.rest) k))

  -- a slice of what remains has the width between its two places
  pub slice-front : {S : Type 0} (is_slice : S → Source T → ℕ → Type 0) (n : ℕ) (s : S)
      → is_slice s here.rest n
      → is_slice s (back all (width (take at.index all)))
      ((width (take at.index all) + n) - width (take at.index all))
  slice-front is_slice n s k = slice-place is_slice n ((width (take at.index all) + n) - width (take at.index all)) s (omega arith) k

  -- a slice of all that remains has the width between the cursor's place and the end
  pub slice-whole : {S : Type 0} (is_slice : S → Source T → ℕ → Type 0) (s : S)
      → is_slice s here.rest (width here.rest)
      → is_slice s (back all (width (take at.index all)))
      ((width (take at.index all) + width (drop at.index all)) - width (take at.index all))
  slice-whole is_slice s k =
      slice-place is_slice (width here.rest) ((width (take at.index all) + width (drop at.index all)) - width (take at.index all)) s
      (let e = ap width h.rest in omega (arith, e))
      k

  -- the items of what remains are those of the list from the cursor's place on
  pub items-place : (xs : List (ℕ × T)) → xs ≡ offsets here.rest
      → xs ≡ offsets (part all (span (place all at.index) (width (rest all at))))
  items-place xs e =
      let all_of_it : front (drop at.index all) (width (drop at.index all)) ≡ drop at.index all =
      front-whole (drop at.index all) (HasPositiveWidths-drop at.index all h.widths)
      in
      let there = back-place all at.index h.widths h.within in
      let wide : (width (take at.index all) + width (drop at.index all)) - width (take at.index all) ≡ width (drop at.index all) = omega arith in
      rw there (rw wide (rw all_of_it (rw (← h.rest) e)))

  -- the state has as many marks as the cursor
  pub count-marks : length here.marks ≡ length at.marks
  count-marks = sym (AllZip-long (IsMarkAt all) here.marks at.marks h.marks)

  -- an offset of what remains is an offset of the rest at the cursor
  offset-here : (n : ℕ) (v b : Bool) → v ≡ is_offset here.rest n → v ≡ b
      → is_offset (drop at.index all) n ≡ b
  offset-here n v b e f = rw (← h.rest) (sym e ∙ f)

  -- an offset that is valid counts its tokens
  pub taken : (n : ℕ) (v : Bool) → v ≡ is_offset here.rest n → v ≡ true
      → front_count (drop at.index all) n ≡ Some (count_to (drop at.index all) n)
  taken n v e f = front_count-found (drop at.index all) n (offset-here n v true e f)

  -- an offset that is not valid counts none
  pub not-taken : (n : ℕ) (v : Bool) → v ≡ is_offset here.rest n → v ≡ false
      → front_count (drop at.index all) n ≡ None
  not-taken n v e f = front_count-missing (drop at.index all) n (offset-here n v false e f)

  -- what remains is no wider than the place of the end
  pub end-later : width here.rest ≤ here.end
  end-later = omega (arith, ap width h.rest, h.end, width-take_drop all at.index)

  -- the cursor's place is the end less what remains
  pub place-here : here.end - width here.rest ≡ place all at.index
  place-here = omega (arith, ap width h.rest, h.end, width-take_drop all at.index)

  -- a mark of the state has a mark of the cursor with the same number and place
  pub mark-found : (k m : ℕ) → slice_get here.marks k ≡ Some m
      → (i : ℕ) × ((slice_get at.marks k ≡ Some i) × IsMarkAt all m i)
  mark-found k m f = AllZip-found (IsMarkAt all) here.marks at.marks k m h.marks f

  -- a number without a mark has none at the cursor either
  pub mark-missing : (k : ℕ) → slice_get here.marks k ≡ None → slice_get at.marks k ≡ None
  mark-missing k f = AllZip-missing (IsMarkAt all) here.marks at.marks k h.marks f

  -- a mark at a later place has a greater index than the cursor
  pub later-mark : (m i : ℕ) → IsMarkAt all m i → place all at.index < m → leb i at.index ≡ false
  later-mark m i f l =
      let p : at.index < i =
      elim (cases_lt at.index i) [ inl a ↦ a | inr b ↦ absurd (omega (arith, f.is, width-take_drop all i, width-take_drop all at.index, width-antitone all i at.index b)) ]
      in
      grind (arith, nat_tests)

  -- a mark at a place that is not later has no greater index than the cursor
  pub earlier-mark : (m i : ℕ) → IsMarkAt all m i → m ≤ place all at.index → leb i at.index ≡ true
  earlier-mark m i f l =
      elim (cases_lt at.index i) [
        | inl a ↦ absurd (omega (arith, f.is, width-take_drop all i, width-take_drop all at.index, width-later all at.index i h.widths a f.within))
        | inr b ↦ le-leb i at.index b
      ]

  -- the width from a mark to the cursor is the difference of their places
  pub mark-width : (m i : ℕ) → IsMarkAt all m i
      → place all at.index - m ≡ width (drop i all) - width (drop at.index all)
  mark-width m i f = omega (arith, f.is, width-take_drop all i, width-take_drop all at.index)

  -- a mark at or after the origin's place has no smaller index
  origin-before : (m i : ℕ) → IsMarkAt all m i → here.base ≤ m → h.first ≤ i
  origin-before m i f l =
      elim (cases_lt i h.first) [
        | inl a ↦ absurd (omega (arith, f.is, h.base, width-take_drop all i, width-take_drop all h.first, width-later all i h.first h.widths a h.first_within))
        | inr b ↦ b
      ]

  -- the rest after a mark is the rest of what remained at the origin
  origin-drop : (i : ℕ) → h.first ≤ i → drop (i - h.first) (drop h.first all) ≡ drop i all
  origin-drop i l = let s : h.first + (i - h.first) ≡ i = omega arith in drop-drop (i - h.first) h.first all ∙ ap (λ n. drop n all) s

  -- the width from the origin to a mark is the difference of their places
  origin-width : (m i : ℕ) → IsMarkAt all m i → here.base ≤ m
      → m - here.base ≡ width (take (i - h.first) (drop h.first all))
  origin-width m i f l =
      let e = ap width (origin-drop i (origin-before m i f l)) in
      omega (arith, e, f.is, h.base, width-take_drop all i, width-take_drop all h.first, width-take_drop (drop h.first all) (i - h.first))

  -- a mark at or after the origin is inside what remained at the origin
  origin-within : (m i : ℕ) → IsMarkAt all m i → here.base ≤ m
      → i - h.first ≤ length (drop h.first all)
  origin-within m i f l = omega (arith, length-drop h.first all, f.within)

  -- the width from the origin to a mark is a valid offset there
  pub mark-offset : (m i : ℕ) → IsMarkAt all m i → here.base ≤ m
      → is_offset here.origin (m - here.base) ≡ true
  mark-offset m i f l =
      rw (h.origin, origin-width m i f l)
      (ap is_some (front_count-place (drop h.first all) (i - h.first) (HasPositiveWidths-drop h.first all h.widths) (origin-within m i f l)))

  -- what remains at a mark is the list from the mark's index on
  pub mark-back : (m i : ℕ) → IsMarkAt all m i → here.base ≤ m
      → back here.origin (m - here.base) ≡ drop i all
  mark-back m i f l =
      rw (h.origin, origin-width m i f l)
      (back-place (drop h.first all) (i - h.first) (HasPositiveWidths-drop h.first all h.widths) (origin-within m i f l) ∙ origin-drop i (origin-before m i f l))

  -- a step that moves by a width leaves the stream located that much later
  pub placed-on : (whole origin from to : Option ℕ) (t : Source T) (w : ℕ)
      → w + width t ≡ width here.rest → to ≡ location_behind from w
      → AreLocated whole here origin from → AreLocated whole (record here { rest = t }) origin to
  placed-on whole origin from to t w e p q =
      (q.0, p ∙ ap (λ v. location_behind v w) q.1 ∙ behind-on whole (here.end - width here.rest) w (here.end - width t) (omega (arith, e, end-later)))

  -- after going back to a mark, the stream is located at that mark
  pub placed-reset : (whole origin from to : Option ℕ) (t : Source T) (k m : ℕ)
      → slice_get here.marks k ≡ Some m → here.base ≤ m → t ≡ back here.origin (m - here.base)
      → to ≡ location_behind origin (m - here.base) → AreLocated whole here origin from
      → AreLocated whole (record here { rest = t }) origin to
  placed-reset whole origin from to t k m f l e p q =
      let g = mark-found k m f in
      let there : width t ≡ width (drop g.0 all) = ap width (e ∙ mark-back m g.0 g.1.1 l) in
      let is : m ≡ place all g.0 = g.1.1.is in
      let left : here.end - width t ≡ m = omega (arith, there, is, h.end, width-take_drop all g.0) in
      (q.0, p ∙ ap (λ v. location_behind v (m - here.base)) q.0 ∙ behind-on whole here.base (m - here.base) m (omega (arith, l)) ∙ ap (location_behind whole) (sym left))

  -- a run that moves to an index of the list stands there
  pub stands-moved : (i : ℕ) (t : Source T) → t ≡ drop i all → i ≤ length all
      → StandsAt (record here { rest = t }) all (record at { index = i })
  stands-moved i t e l = record {
    widths = h.widths;
    rest = e;
    within = l;
    marks = h.marks;
    end = h.end;
    first = h.first;
    base = h.base;
    origin = h.origin;
    first_within = h.first_within;
  }

  -- after `Next` the run stands one token later
  pub stands-next : (t : Source T) → t ≡ drop 1 here.rest
      → StandsAt (record here { rest = t }) all (step_next {C = Unit {0}} all Next at)
  stands-next t e = stands-moved _ t (e ∙ ap (drop 1) h.rest ∙ drop-next all at.index) (omega arith)

  -- after a valid `Take` the run stands after the front that was taken
  pub stands-take : (n : ℕ) (t : Source T) → t ≡ back here.rest n
      → StandsAt (record here { rest = t }) all (step_next {C = Unit {0}} all (Take n) at)
  stands-take n t e = stands-moved _ t (e ∙ ap (λ x. back x n) h.rest ∙ back-drop all at.index n) (within-back all at.index n h.within)

  -- after `Finish` the run stands at the end
  pub stands-end : (t : Source T) → t ≡ []
      → StandsAt (record here { rest = t }) all (step_next {C = Unit {0}} all Finish at)
  stands-end t e = stands-moved (length all) t (e ∙ sym (drop_all (length all) all (omega arith))) (omega arith)

  -- a `Take` that is not valid leaves the run where it stands
  pub stands-not_taken : (n : ℕ) → front_count (drop at.index all) n ≡ None
      → StandsAt here all (step_next {C = Unit {0}} all (Take n) at)
  stands-not_taken n e =
      let i : at.index ≡ at.index + 0 = omega arith in
      rw e (stands-moved (at.index + 0) here.rest (h.rest ∙ ap (λ k. drop k all) i) (rw (← i) h.within))

  -- after `Mark` the run has the cursor's place as a further mark
  pub stands-mark : (m : ℕ) (new : List ℕ) → m ≡ place all at.index → new ≡ here.marks ++ m ∷ []
      → StandsAt (record here { marks = new }) all (step_next {C = Unit {0}} all Mark at)
  stands-mark m new is e =
      record {
        widths = h.widths;
        rest = h.rest;
        within = h.within;
        marks = rw e (AllZip-more (IsMarkAt all) here.marks at.marks m at.index h.marks (record { is = is; within = h.within }));
        end = h.end;
        first = h.first;
        base = h.base;
        origin = h.origin;
        first_within = h.first_within;
      }

  -- after `Reset` to a mark the run stands at that mark
  pub stands-reset : (k m : ℕ) (t : Source T) → slice_get here.marks k ≡ Some m → here.base ≤ m
      → t ≡ back here.origin (m - here.base)
      → StandsAt (record here { rest = t }) all (step_next {C = Unit {0}} all (Reset k) at)
  stands-reset k m t f l e =
      let g = mark-found k m f in
      rw g.1.0 (stands-moved g.0 t (e ∙ mark-back m g.0 g.1.1 l) g.1.1.within)

  -- a `Reset` to a mark that was not made leaves the run where it stands
  pub stands-unmarked : (k : ℕ) → slice_get here.marks k ≡ None
      → StandsAt here all (step_next {C = Unit {0}} all (Reset k) at)
  stands-unmarked k f = rw (mark-missing k f) h
