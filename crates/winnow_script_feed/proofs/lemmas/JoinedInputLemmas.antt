-- A run over pieces and the joined input: where the next step looks, and what an attempt leaves.
use Rattle.std.proofs.Common.{◌≡◌, ℕ, zero, suc, ◌+◌, ◌-◌, ◌≤◌, ◌<◌, Bool, true, cond, List, [], ◌∷◌, ◌++◌, length, take, drop, map, Option, Some, refl, sym, ap, ◌∙◌, arith, subst, length-drop, get_or}
use Rattle.std.proofs.Math.Nat.{le_trans}
use Rattle.std.specs.Prelude.{slice_get, is_some}
use Rattle.std.proofs.lemmas.List.{drop-drop, length-map, length-append, map-append, append_assoc, append-nil}
use Rattle.std.proofs.lemmas.Option.{same_Some, slice_get-get_or}
use Rattle.winnow_stream.specs.Source.{Source, width, HasPositiveWidths}
use Rattle.winnow_stream.specs.Front.{is_offset, back}
use Rattle.winnow_stream.specs.Cursor.{start, rest, place}
use Rattle.winnow_script_run.specs.declared.need.Need.{Need}
use Rattle.winnow_script_run.specs.declared.need.Need.TheVariants as need
use Rattle.winnow_script_run.specs.Needs.{call_need}
use Rattle.winnow_stream.proofs.lemmas.FrontLemmas.{front_count-place, back-place, HasPositiveWidths-drop, width-take_drop}
use Rattle.winnow_sets.specs.declared.char_set.CharSet.{CharSet}
use Rattle.winnow_match.specs.Bytes.{written}
use Rattle.winnow_match.specs.Search.{needle_list}
use Rattle.winnow_script_run.specs.declared.search_steps.SearchStep.{SearchStep}
use Rattle.winnow_script_run.specs.declared.search_steps.SearchStep.TheVariants as step
use Rattle.winnow_script_feed.specs.declared.progress.Progress.{Progress}
use Rattle.winnow_script_run.specs.Searching.{search_answer, search_next}
use Rattle.winnow_script_run.specs.Definite.{PieceReading, kind_on_pieces, is_definite}
use Rattle.winnow_script_attempt.specs.Settled.{IsNeedSettled, IsSettled, nothing_settled}
use Rattle.winnow_script_attempt.specs.Looks.{Look, look_of}
use Rattle.winnow_script_feed.specs.Reach.{least_index, needed_from}
use Rattle.winnow_script_attempt.specs.Looks.{under}
use Rattle.winnow_script_feed.specs.JoinedInput.{GoesOn, IsRunOver, AddsAnswers, AddsMarks, next_step, steps_left, answers_out}
use Rattle.winnow_script_run.proofs.lemmas.StepLemmas.{Inside, start-inside}
use Rattle.winnow_script_attempt.proofs.lemmas.SettledLemmas.{width-split, NoneInSet-none, AreCounted-none, AreSame-none}
use Rattle.winnow_script_attempt.proofs.lemmas.BegunLemmas.{IsSearchSettled-none}
use Rattle.winnow_script_attempt.proofs.lemmas.CursorLemmas.{cursor-answer, cursor-place, cursor-marks}
use Rattle.winnow_script_feed.proofs.lemmas.ReachLemmas.{Reaches-inside, Reaches-push, least-at, never_back}

-- the rest of a list begins with the element there
drop-at : {X : Type 0} (xs : List X) (i : ℕ) (x : X) → slice_get xs i ≡ Some x
    → drop i xs ≡ x ∷ drop (suc i) xs
drop-at [] i x h = absurd (cc)
drop-at (y ∷ xs) zero x h = let e : y ≡ x = cc in rw e refl
drop-at (y ∷ xs) (suc i) x h = drop-at xs i x h

-- the element of the script at the number of answers is the next step
pub next-is : {T L : Type 0} (p : Progress T L) (i : ℕ) (x : SearchStep CharSet L)
    → i ≡ length p.told.items → i < length p.script.now → x ≡ get_or p.script.now i x
    → next_step p ≡ Some x
next-is p i x e l is = ap (slice_get p.script.now) (sym e) ∙ slice_get-get_or p.script.now i x l ∙ ap Some (sym is)

-- at first, a need has settled nothing
need-none_settled : {T C : Type 0} (holds : C → T → Bool) (n : Need C) (r : Source T)
    → IsNeedSettled holds n r 0 0
need-none_settled holds (need.TokenOf c) r = NoneInSet-none (holds c) r
need-none_settled holds (need.Tokens asked) r = AreCounted-none asked r
need-none_settled holds need.Nothing r = tt
need-none_settled holds need.Token r = tt
need-none_settled holds (need.Width n) r = tt
need-none_settled holds need.End r = tt

-- at first, a step has settled nothing
pub none-settled : {T C L : Type 0} (k : PieceReading T C L) (s : SearchStep C L) (r : Source T)
    → IsSettled k s r nothing_settled
none-settled k (step.Call s) r = need-none_settled k.holds (call_need s) r
none-settled k (step.Compare l) r = AreSame-none (k.literal l) (written k.write r)
none-settled k (step.Find ns) r = IsSearchSettled-none (needle_list k.literal ns) (written k.write r)

-- a run that differs only in what it counts stands for the same input
pub IsRunOver-same : {T L : Type 0} (strict : Bool) (k : PieceReading T CharSet L)
    (all kept : Source T) (p : Progress T L) → IsRunOver strict k all kept p → (q : Progress T L)
    → q.script ≡ p.script → q.told.items ≡ p.told.items → q.place ≡ p.place → q.marks ≡ p.marks
    → q.settled ≡ p.settled → q.base ≡ p.base → IsRunOver strict k all kept q
IsRunOver-same strict k all kept p h q script told here marks settled base = record {
  widths = h.widths;
  at = h.at;
  reaches = rw (script, told) h.reaches;
  here = here ∙ h.here;
  marked = ap (λ m. m.items) marks ∙ h.marked;
  first = h.first;
  reached = rw (script, told) h.reached;
  based = base ∙ h.based;
  is_kept = h.is_kept;
  settled = λ s i. rw settled (h.settled s (rw (script, told) at i));
}

-- ---- the answers that were added

-- no answer, or more answers after some, are answers that were added
pub AddsAnswers-none : {T L : Type 0} (piece : Option ℕ) (p q : Progress T L)
    → q.told.items ≡ p.told.items → AddsAnswers piece p q
AddsAnswers-none piece p q e = record { more = []; told = e ∙ sym (append-nil p.told.items) }

pub AddsAnswers-more : {T L : Type 0} (piece : Option ℕ) (p q r : Progress T L)
    → AddsAnswers piece p q → AddsAnswers piece q r → AddsAnswers piece p r
AddsAnswers-more piece p q r h g = record {
  more = h.more ++ g.more;
  told = g.told ∙ ap (λ t. t ++ map (under piece) g.more) h.told ∙ append_assoc p.told.items (map (under piece) h.more) (map (under piece) g.more) ∙ ap (λ t. p.told.items ++ t) (sym (map-append (under piece) h.more g.more));
}

-- equal marks are marks to which none was added
pub AddsMarks-none : {T L : Type 0} (p q : Progress T L) → q.marks.items ≡ p.marks.items
    → AddsMarks p q
AddsMarks-none p q e = record { more = []; marks = e ∙ sym (append-nil p.marks.items) }

pub AddsMarks-more : {T L : Type 0} (p q r : Progress T L) → AddsMarks p q → AddsMarks q r
    → AddsMarks p r
AddsMarks-more p q r h g = record {
  more = h.more ++ g.more;
  marks = g.marks ∙ ap (λ m. m ++ g.more) h.marks ∙ append_assoc p.marks.items h.more g.more;
}

-- a run that went on twice went on
pub GoesOn-more : {T L : Type 0} (piece : Option ℕ) (p q r : Progress T L) → GoesOn piece p q
    → GoesOn piece q r → length p.told.items ≤ length q.told.items
    → length q.told.items ≤ length r.told.items → GoesOn piece p r
GoesOn-more piece p q r h g first second = record {
  script = g.script ∙ h.script;
  base = g.base ∙ h.base;
  pieces = g.pieces ∙ h.pieces;
  adds = AddsAnswers-more piece p q r h.adds g.adds;
  makes = AddsMarks-more p q r h.makes g.makes;
  still = λ same.
      let a = h.still (omega (arith, same, first, second)) in
      let b = g.still (omega (arith, same, first, second)) in
      (b.0 ∙ a.0, b.1 ∙ a.1);
  told = le_trans h.told g.told;
  room = g.room;
}

module _ {T L : Type 0} (strict : Bool) (k : PieceReading T CharSet L) (all kept : Source T) (p : Progress T L) (h : IsRunOver strict k all kept p) (x : SearchStep CharSet L) (next : next_step p ≡ Some x) where
  -- the cursor is inside the list
  pub inside : Inside all h.at
  inside = Reaches-inside k strict all start h.at p.script.now (answers_out p) (start-inside all) h.reaches

  -- the remaining steps begin with the next step
  left : steps_left p ≡ x ∷ drop (suc (length p.told.items)) p.script.now
  left = drop-at p.script.now (length p.told.items) x next

  -- what is kept begins no later than what the remaining steps name
  first-least : h.first ≤ least_index (x ∷ drop (suc (length p.told.items)) p.script.now) h.at
  first-least = subst (λ ss. h.first ≤ needed_from all ss h.at) left h.reached

  -- what is kept begins no later than the cursor
  first-le : h.first ≤ h.at.index
  first-le = omega (arith, first-least, least-at (x ∷ drop (suc (length p.told.items)) p.script.now) h.at)

  -- the cursor's index is its distance from the first kept token, after that token's index
  sum : h.first + (h.at.index - h.first) ≡ h.at.index
  sum = let l = first-le in omega arith

  -- the cursor's place is the base and the width of the kept tokens before it
  far : p.place ≡ p.base + width (take (h.at.index - h.first) (drop h.first all))
  far = h.here ∙ ap (λ i. width (take i all)) (sym sum) ∙ width-split h.first (h.at.index - h.first) all ∙ ap (λ n. n + width (take (h.at.index - h.first) (drop h.first all))) (sym h.based)

  -- the base is no later than the cursor's place
  pub base-le : p.base ≤ p.place
  base-le = omega (arith, far)

  -- the distance from the base to the cursor is the width of the kept tokens before it
  away : p.place - p.base ≡ width (take (h.at.index - h.first) kept)
  away = let f = far in let e : p.place - p.base ≡ width (take (h.at.index - h.first) (drop h.first all)) = omega arith in e ∙ ap (λ r. width (take (h.at.index - h.first) r)) (sym h.is_kept)

  -- the kept tokens have positive widths
  wide : HasPositiveWidths kept
  wide = subst HasPositiveWidths (sym h.is_kept) (HasPositiveWidths-drop h.first all h.widths)

  -- the cursor is inside what is kept
  fits : h.at.index - h.first ≤ length kept
  fits = let i = inside.index in omega (arith, ap length h.is_kept, length-drop h.first all)

  -- the distance from the base to the cursor is a valid offset in what is kept
  pub kept-offset : is_offset kept (p.place - p.base) ≡ true
  kept-offset = subst (λ n. is_offset kept n ≡ true) (sym away) (ap is_some (front_count-place kept (h.at.index - h.first) wide fits))

  -- what remains there is what remains at the cursor
  pub kept-rest : back kept (p.place - p.base) ≡ rest all h.at
  kept-rest = ap (back kept) away ∙ back-place kept (h.at.index - h.first) wide fits ∙ ap (drop (h.at.index - h.first)) h.is_kept ∙ drop-drop (h.at.index - h.first) h.first all ∙ ap (λ i. drop i all) sum

  -- what remains ends where what is kept ends
  pub kept-room : p.place + width (rest all h.at) ≡ p.base + width kept
  kept-room = omega (arith, h.here, h.based, width-take_drop all h.at.index, width-take_drop all h.first, ap width h.is_kept)

  -- what remains at the cursor's place is what remains at the cursor
  pub rest-back : back all p.place ≡ rest all h.at
  rest-back = ap (back all) h.here ∙ back-place all h.at.index h.widths inside.index

  -- after the next step, what is kept still begins no later than what is needed
  needed-on : (later : List (SearchStep CharSet L)) → h.first ≤ least_index (x ∷ later) h.at
      → h.first ≤ needed_from all later (search_next all x h.at)
  needed-on [] l = let i = inside.index in omega (arith, first-le)
  needed-on (y ∷ later) l = omega (arith, l, never_back all h.at inside x (y ∷ later))

  -- ---- an attempt that waits

  -- a run whose next step waits stands for the same input
  pub IsRunOver-waits : (q : Progress T L) → q.script ≡ p.script → q.told.items ≡ p.told.items
      → q.place ≡ p.place → q.marks ≡ p.marks → q.base ≡ p.base
      → IsSettled k x (rest all h.at) q.settled → IsRunOver strict k all kept q
  IsRunOver-waits q script told here marks base settled =
      let same : next_step q ≡ Some x = rw (script, told) next in
      record {
        widths = h.widths;
        at = h.at;
        reaches = rw (script, told) h.reaches;
        here = here ∙ h.here;
        marked = ap (λ m. m.items) marks ∙ h.marked;
        first = h.first;
        reached = rw (script, told) h.reached;
        based = base ∙ h.based;
        is_kept = h.is_kept;
        settled = λ s e. subst (λ y. IsSettled k y (rest all h.at) q.settled) (same_Some x s (sym same ∙ e)) settled;
      }

  -- ---- an attempt that was answered

  -- a run whose next step was answered stands for the same input
  pub IsRunOver-answered : (q : Progress T L) (piece : Option ℕ) (look : Look T)
      → (strict ≡ true → is_definite k x (rest all h.at) ≡ true)
      → look ≡ look_of k p.place p.marks.items (rest all h.at) x → q.script ≡ p.script
      → q.base ≡ p.base
      → q.told.items ≡ p.told.items ++ record { piece = piece; answer = look.answer } ∷ [] → q.place ≡ look.place → q.marks.items ≡ cond look.marks (p.marks.items ++ p.place ∷ []) p.marks.items → q.settled ≡ nothing_settled → IsRunOver strict k all kept q
  IsRunOver-answered q piece look definite is script base told here marks none =
      let seen : look ≡ look_of k (place all h.at.index) (map (place all) h.at.marks) (rest all h.at) x = is ∙ ap (λ n. look_of k n p.marks.items (rest all h.at) x) h.here ∙ ap (λ ms. look_of k (place all h.at.index) ms (rest all h.at) x) h.marked in
      let answer : look.answer ≡ search_answer (kind_on_pieces k) all x h.at = ap (λ l. l.answer) seen ∙ cursor-answer k all h.at h.widths inside x in
      let place_is : look.place ≡ place all (search_next all x h.at).index = ap (λ l. l.place) seen ∙ cursor-place k all h.at h.widths inside x in
      let marks_is : cond look.marks (map (place all) h.at.marks ++ place all h.at.index ∷ []) (map (place all) h.at.marks) ≡ map (place all) (search_next all x h.at).marks =
      ap (λ l. cond l.marks (map (place all) h.at.marks ++ place all h.at.index ∷ []) (map (place all) h.at.marks)) seen ∙ cursor-marks k all h.at h.widths inside x
      in
      let len : length (answers_out p) ≡ length p.told.items = length-map p.told.items (λ t. t.answer) in
      let next_at : slice_get p.script.now (length (answers_out p)) ≡ Some x = ap (slice_get p.script.now) len ∙ next in
      let pushed = Reaches-push k strict all start h.at p.script.now (answers_out p) x h.reaches next_at definite in
      let told_is : answers_out q ≡ answers_out p ++ search_answer (kind_on_pieces k) all x h.at ∷ [] =
      ap (map (λ t. t.answer)) told ∙ map-append (λ t. t.answer) p.told.items (record { piece = piece; answer = look.answer } ∷ []) ∙ ap (λ a. answers_out p ++ a ∷ []) answer
      in
      let count : length q.told.items ≡ suc (length p.told.items) = ap length told ∙ length-append p.told.items (record { piece = piece; answer = look.answer } ∷ []) ∙ omega arith in
      let later = drop (suc (length p.told.items)) p.script.now in
      let needed : h.first ≤ needed_from all later (search_next all x h.at) = needed-on later first-least in
      record {
        widths = h.widths;
        at = search_next all x h.at;
        reaches = rw (script, told_is) pushed;
        here = here ∙ place_is;
        marked = marks ∙ ap (λ ms. cond look.marks (ms ++ p.place ∷ []) ms) h.marked ∙ ap (λ n. cond look.marks (map (place all) h.at.marks ++ n ∷ []) (map (place all) h.at.marks)) h.here ∙ marks_is;
        first = h.first;
        reached = rw (script, count) needed;
        based = base ∙ h.based;
        is_kept = h.is_kept;
        settled = λ s e. rw none (none-settled k s (rest all (search_next all x h.at)));
      }
