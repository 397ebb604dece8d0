-- What a feed does, derived from what its run does.
use Rattle.std.proofs.Common.{◌≡◌, ℕ, ◌+◌, ◌≤◌, ◌<◌, cond, ltb, List, [], ◌∷◌, ◌++◌, length, take, drop, map, true, false, refl, sym, ap, ◌∙◌, arith, None, Some, Bor, length-drop}
use Rattle.std.proofs.lemmas.List.{nil_from_length, map-append, append-nil, length-append, length-map, drop_at}
use Rattle.std.proofs.lemmas.Bool.{le-ltb}
use Rattle.std.proofs.lemmas.Option.{slice_get_within}
use Rattle.std.specs.Prelude.{slice_get}
use Rattle.winnow_stream.specs.Source.{Source, width}
use Rattle.winnow_stream.specs.Front.{back}
use Rattle.winnow_stream.specs.Cursor.{start, place, rest, cursor_after}
use Rattle.winnow_stream.proofs.lemmas.FrontLemmas.{width-back, width-take_drop}
use Rattle.winnow_script_feed.specs.declared.progress.Progress.{Progress}
use Rattle.winnow_script_feed.specs.declared.finished.Finished.{Finished}
use Rattle.winnow_script_run.specs.Definite.{kind_on_pieces, out, is_definite}
use Rattle.winnow_script_run.specs.Searching.{search_next, search_answers, search_cursor}
use Rattle.winnow_script_feed.specs.Inputs.{InputRules, joined}
use Rattle.winnow_script_feed.specs.Reach.{needed_place, needed_from}
use Rattle.winnow_script_feed.specs.JoinedInput.{IsRunOver, IsAtRest, KeepsLeast, TakesIn, AddsAnswers, Tries, next_step, steps_left, answers_out}
use Rattle.winnow_script_feed.specs.ToldAnswers.{capped, out_on, is_waiting, told_of, waits, tried_of, all_answers}
use Rattle.winnow_script_attempt.specs.Looks.{under}
use Rattle.winnow_script_feed.specs.Feeding.{FeedState, Fits, HoldsInput, Finishes, held_after, script_of, bytes_fed}
use Rattle.winnow_script_feed.proofs.lemmas.InputLemmas.{IsInput, joined-push}
use Rattle.winnow_script_feed.proofs.lemmas.ToldLemmas.{AreInputs, answers_of, answers-under, told_of-push, waits-push}
use Rattle.winnow_script_attempt.specs.Settled.{nothing_settled}
use Rattle.winnow_script_feed.proofs.lemmas.JoinedInputLemmas.{rest-back, none-settled}
use Rattle.winnow_script_feed.proofs.lemmas.KeepingLemmas.{IsRunOver-more, IsRunOver-skips, place-kept, fed-is, end-is, needed-none, needed-done, needed-same_end}
use Rattle.winnow_script_feed.proofs.lemmas.ReachLemmas.{Reaches-out, Reaches-cursor, Reaches-all}

abbrev Run : Type 0
Run = Progress ℕ (Bor (List ℕ))

-- a feed took a piece: with what was kept before it made `xs`, the run took it in, and the unneeded
-- front of it was dropped
pub record TookPiece (i : InputRules) (old new : FeedState) (piece : List ℕ) : Type 0 where
  pub xs : List ℕ
  pub unneeded : ℕ
  pub is_piece : i.valid piece ≡ true
  pub is_kept : i.valid new.kept ≡ true
  pub joins : xs ≡ old.kept ++ piece
  pub left : i.source new.kept ≡ back (i.source xs) unneeded
  pub takes : TakesIn i.pieces (i.source xs) unneeded old.run new.run

module _ (i : InputRules) (law : IsInput i) where
  -- the run stands for the input with a piece appended to what is kept
  pub grow : (J piece xs : List ℕ) (f : FeedState) → i.valid piece ≡ true → xs ≡ f.kept ++ piece
      → HoldsInput i f J → IsRunOver true i.pieces (i.source (J ++ piece)) (i.source xs) f.run
  grow J piece xs f v e h =
      rw (law.split J piece h.is_input, e, law.split f.kept piece h.is_kept)
      (IsRunOver-more i.pieces (i.source J) (i.source f.kept) f.run h.stands (i.source piece) (law.widths piece))

  -- if a step remains, what is needed does not depend on the end of the input
  pub least-anywhere : (f : FeedState) → KeepsLeast (bytes_fed f) f.run
      → length f.run.told.items < length f.run.script.now → (end : ℕ) → KeepsLeast end f.run
  least-anywhere f least left end = least ∙ needed-same_end (bytes_fed f) end f.run.place f.run.marks.items (steps_left f.run) (omega (arith, left, length-drop (length f.run.told.items) f.run.script.now))

  -- a piece that was taken in, whose unneeded front was dropped
  module _ (old new : FeedState) (piece : List ℕ) (took : TookPiece i old new piece) where
    -- what is kept, with the piece, is as wide as it is long
    whole : i.valid old.kept ≡ true → width (i.source took.xs) ≡ length old.kept + length piece
    whole w = law.width_is took.xs (rw took.joins (law.joins old.kept piece w took.is_piece)) ∙ ap length took.joins ∙ length-append old.kept piece

    -- the bytes that were fed end where what is kept ends
    taken-fed : i.valid old.kept ≡ true → bytes_fed new ≡ old.run.base + width (i.source took.xs)
    taken-fed w = omega (arith, took.takes.base, width-back (i.source took.xs) took.unneeded took.takes.offset, ap width took.left, law.width_is new.kept took.is_kept)

    -- the feed holds the input with the piece appended, and its next step waits
    pub taken : (J : List ℕ) → HoldsInput i old J
        → HoldsInput i new (J ++ piece) × IsAtRest i.pieces (i.source (J ++ piece)) new.run
    taken J h =
        let after = took.takes.stands (i.source (J ++ piece)) (grow J piece took.xs old took.is_piece took.joins h) in (
          record {
            is_input = law.joins J piece h.is_input took.is_piece;
            is_kept = took.is_kept;
            stands = rw took.left after.0;
            least = rw (taken-fed h.is_kept) took.takes.least;
          },
          after.1,
        )

    -- the piece adds its length to the bytes that were fed
    pub taken-room : (J : List ℕ) → HoldsInput i old J
        → bytes_fed new ≡ bytes_fed old + length piece
    taken-room J h = omega (arith, taken-fed h.is_kept, whole h.is_kept)

  -- the bytes that were fed are as many as the input has
  pub fed : (J : List ℕ) (f : FeedState) → HoldsInput i f J → f.run.base + length f.kept ≡ length J
  fed J f h = omega (arith, fed-is i.pieces (i.source J) (i.source f.kept) f.run h.stands, law.width_is J h.is_input, law.width_is f.kept h.is_kept)

  -- a feed that was fed nothing holds the empty input
  pub new-stands : (run : Run) (kept : List ℕ) → run.told.items ≡ [] → run.marks.items ≡ []
      → kept ≡ [] → run.place ≡ 0 → run.base ≡ 0 → run.settled ≡ nothing_settled
      → HoldsInput i (record { run = run; kept = kept }) []
  new-stands run kept told marks none here base settled =
      record {
        is_input = law.empty;
        is_kept = rw none law.empty;
        least = rw (base, here, marks, none) (sym (needed-none run.script.now (steps_left run)));
        stands = record {
          widths = law.widths [];
          at = start;
          reaches = rw told refl;
          here = here;
          marked = marks;
          first = 0;
          reached = omega arith;
          based = base;
          is_kept = ap i.source none;
          settled = λ s e. rw settled (none-settled i.pieces s (rest (i.source []) start));
        };
      }

  -- the answers of a run at rest are those that are out
  pub out-is : (all kept : Source ℕ) (run : Run) → IsRunOver true i.pieces all kept run
      → IsAtRest i.pieces all run → out i.pieces all run.script.now ≡ answers_out run
  out-is all kept run h rests =
      Reaches-out i.pieces all start h.at run.script.now (answers_out run) h.reaches (λ x e.
      let next : next_step run ≡ Some x = ap (slice_get run.script.now) (sym (length-map run.told.items (λ t. t.answer))) ∙ e in
      ap (is_definite i.pieces x) (sym (rest-back true i.pieces all kept run h x next)) ∙ rests x next)

  -- the bytes that are kept are those that the remaining steps need
  pub Fits-held : (f : FeedState) (pieces : List (List ℕ)) → Fits i f pieces
      → length f.kept ≡ held_after i (script_of f) pieces
  Fits-held f [] h = omega (arith, fed [] f h.stands)
  Fits-held f (p ∷ pieces) h =
      let J = joined (p ∷ pieces) in
      let all = i.source J in
      let s = h.stands.stands in
      let count : length (out i.pieces all f.run.script.now) ≡ length f.run.told.items = ap length (out-is all (i.source f.kept) f.run s (h.rests (omega arith))) ∙ length-map f.run.told.items (λ t. t.answer) in
      let at : cursor_after (search_next all) (take (length f.run.told.items) f.run.script.now) start ≡ s.at =
      ap (λ n. cursor_after (search_next all) (take n f.run.script.now) start) (sym (length-map f.run.told.items (λ t. t.answer))) ∙ Reaches-cursor true i.pieces all start s.at f.run.script.now (answers_out f.run) s.reaches
      in
      let needed = needed_from all (steps_left f.run) s.at in
      let base : f.run.base ≡ place all needed = h.stands.least ∙ place-kept i.pieces all (i.source f.kept) f.run s (bytes_fed f) (omega (arith, law.width_is f.kept h.stands.is_kept)) in
      let e : length f.kept ≡ width (drop needed all) = omega (arith, base, fed J f h.stands, law.width_is J h.stands.is_input, width-take_drop all needed) in
      rw (count, at) e

  -- a piece after the last answer is not kept
  pub skips : (f : FeedState) (J piece : List ℕ) (q : Run) → i.valid piece ≡ true
      → HoldsInput i f J → length f.run.script.now ≤ length f.run.told.items
      → q.script ≡ f.run.script → q.told ≡ f.run.told → q.place ≡ f.run.place
      → q.marks ≡ f.run.marks → q.settled ≡ f.run.settled → q.base ≡ f.run.base + length piece
      → HoldsInput i (record { run = q; kept = f.kept }) (J ++ piece)
  skips f J piece q v h done script told here marks settled base =
      let none : steps_left f.run ≡ [] = needed-done f.run done in
      let gone : length f.kept ≡ 0 = omega (arith, h.least, ap (needed_place (bytes_fed f) f.run.place f.run.marks.items) none) in
      let is_nil : f.kept ≡ [] = nil_from_length f.kept gone in
      let nothing : i.source f.kept ≡ [] = ap i.source is_nil ∙ law.nothing in
      let over : steps_left q ≡ [] = rw (script, told) none in
      let fed_is = end-is i.pieces (i.source J) (i.source f.kept) f.run h.stands in
      let wide : f.run.base ≡ place (i.source J) (length (i.source J)) = omega (arith, fed_is, ap width nothing) in
      record {
        is_input = law.joins J piece h.is_input v;
        is_kept = h.is_kept;
        stands = rw (law.split J piece h.is_input) (IsRunOver-skips i.pieces (i.source J) (i.source f.kept) f.run h.stands (i.source piece) (law.widths piece) none q (i.source f.kept) nothing script told here marks settled (base ∙ omega (arith, fed_is, ap width nothing, law.width_is piece v)));
        least = omega (arith, base, gone, ap (needed_place (q.base + length f.kept) q.place q.marks.items) over);
      }

  -- valid pieces stay valid when a valid one is appended
  AreInputs-push : (pieces : List (List ℕ)) (p : List ℕ) → AreInputs i.valid pieces
      → i.valid p ≡ true → AreInputs i.valid (pieces ++ p ∷ [])
  AreInputs-push [] p us u = (u, tt)
  AreInputs-push (q ∷ pieces) p us u = (us.0, AreInputs-push pieces p us.1 u)

  -- a feed that took a piece fits the pieces with that piece appended
  pub Fits-fed : (old new : FeedState) (pieces : List (List ℕ)) (p : List ℕ) → Fits i old pieces
      → i.valid p ≡ true → new.run.script ≡ old.run.script → HoldsInput i new (joined pieces ++ p)
      → IsAtRest i.pieces (i.source (joined pieces ++ p)) new.run
      → AddsAnswers (Some new.run.pieces) old.run new.run
      → new.run.pieces ≡ capped (old.run.pieces + 1) → Tries old.run new.run
      → Fits i new (pieces ++ p ∷ [])
  Fits-fed old new pieces p fits u script stands rests adds number tried =
      let J = joined pieces ++ p in
      let steps = script_of new in
      let words : script_of new ≡ script_of old = ap (λ s. s.now) script in
      let all : out_on i steps J ≡ answers_out new.run = out-is (i.source J) (i.source new.kept) new.run stands.stands rests in
      let parts : answers_out new.run ≡ answers_out old.run ++ adds.more = ap answers_of adds.told ∙ map-append (λ t. t.answer) old.run.told.items (map (under (Some new.run.pieces)) adds.more) ∙ ap (λ x. answers_out old.run ++ x) (answers-under (Some new.run.pieces) adds.more) in
      let old_told : old.run.told.items ≡ told_of i steps pieces = fits.told ∙ ap (λ s. told_of i s pieces) (sym words) in
      let push = told_of-push i law steps pieces p adds.more fits.are_pieces (all ∙ parts ∙ ap (λ x. answers_of x ++ adds.more) old_told) in
      let is_number : new.run.pieces ≡ capped (length pieces + 1) = number ∙ ap (λ n. capped (n + 1)) fits.count ∙ omega arith in
      let told : new.run.told.items ≡ told_of i steps (pieces ++ p ∷ []) = adds.told ∙ ap (λ n. old.run.told.items ++ map (under (Some n)) adds.more) is_number ∙ ap (λ x. x ++ map (under (Some (capped (length pieces + 1)))) adds.more) old_told ∙ sym push in
      let waiting : is_waiting i steps J ≡ ltb (length new.run.told.items) (length steps) = ap (λ x. ltb (length x) (length steps)) all ∙ ap (λ n. ltb n (length steps)) (length-map new.run.told.items (λ t. t.answer)) in
      let w : waits i steps [] (pieces ++ p ∷ []) ≡ waits i steps [] pieces + cond (ltb (length new.run.told.items) (length steps)) 1 0 = waits-push i steps [] pieces p ∙ ap (λ b. waits i steps [] pieces + cond b 1 0) waiting in
      let old_tried : old.run.tried ≡ capped (length (told_of i steps pieces) + waits i steps [] pieces) = fits.tried ∙ ap (λ s. tried_of i s pieces) (sym words) in
      let lens : length new.run.told.items ≡ length old.run.told.items + length adds.more = ap length adds.told ∙ length-append old.run.told.items (map (under (Some new.run.pieces)) adds.more) ∙ ap (λ n. length old.run.told.items + n) (length-map adds.more (under (Some new.run.pieces))) in
      record {
        are_pieces = AreInputs-push pieces p fits.are_pieces u;
        stands = rw (joined-push pieces p) stands;
        rests = λ _. rw (joined-push pieces p) rests;
        told = told;
        count = is_number ∙ ap capped (sym (length-append pieces (p ∷ [])));
        tried = omega (arith, tried, w, old_tried, ap length told, ap length old_told, lens);
      }

  -- a feed that skipped a piece after its last answer fits the pieces with it
  pub Fits-skipped : (old new : FeedState) (pieces : List (List ℕ)) (p : List ℕ)
      → Fits i old pieces → i.valid p ≡ true
      → length old.run.script.now ≤ length old.run.told.items → new.run.script ≡ old.run.script
      → new.run.told ≡ old.run.told → HoldsInput i new (joined pieces ++ p)
      → new.run.pieces ≡ capped (old.run.pieces + 1) → new.run.tried ≡ old.run.tried
      → Fits i new (pieces ++ p ∷ [])
  Fits-skipped old new pieces p fits u done script told stands number tried =
      let over : length new.run.script.now ≤ length new.run.told.items = rw (script, told) done in
      Fits-fed old new pieces p fits u script stands
      (λ s e. absurd (omega (arith, slice_get_within new.run.script.now (length new.run.told.items) s e, over)))
      (record { more = []; told = ap (λ t. t.items) told ∙ sym (append-nil old.run.told.items) }) number
      (rw (le-ltb _ _ over) (omega (arith, tried, fits.tried, ap (λ t. length t.items) told)))

  -- the number of answers that one piece gave
  pub came-out : (old new : FeedState) (pieces : List (List ℕ)) (p : List ℕ) (n : ℕ)
      → Fits i old pieces → Fits i new (pieces ++ p ∷ []) → new.run.script ≡ old.run.script
      → length new.run.told.items ≡ length old.run.told.items + n
      → length (told_of i (script_of old) (pieces ++ p ∷ []))
      ≡ length (told_of i (script_of old) pieces) + n
  came-out old new pieces p n before after script e =
      let now : length new.run.told.items ≡ length (told_of i (script_of old) (pieces ++ p ∷ [])) = ap length after.told ∙ ap (λ s. length (told_of i s.now (pieces ++ p ∷ []))) script in
      omega (arith, e, now, ap length before.told)

-- a run that has answered each step has all answers, and stands at the last place
module _ (i : InputRules) (J : List ℕ) (kept : Source ℕ) (run : Run) (h : IsRunOver false i.pieces (i.source J) kept run) (done : length run.script.now ≤ length run.told.items) where
  -- the answers and the cursor are those of the script on the whole input
  ended : (answers_out run ≡ search_answers (kind_on_pieces i.pieces) (i.source J) run.script.now)
      × (h.at ≡ search_cursor (i.source J) run.script.now)
  ended = Reaches-all false i.pieces (i.source J) start h.at run.script.now (answers_out run) h.reaches (omega (arith, done, length-map run.told.items (λ t. t.answer)))

  -- the answers, the place and what the end returns are those of the script
  pub end-answers : answers_out run
      ≡ search_answers (kind_on_pieces i.pieces) (i.source J) run.script.now
  end-answers = ended.0

  pub end-place : run.place ≡ place (i.source J) (search_cursor (i.source J) run.script.now).index
  end-place = h.here ∙ ap (λ at. place (i.source J) at.index) ended.1

module _ (i : InputRules) (old : FeedState) (pieces : List (List ℕ)) (kept : Source ℕ) (run : Run) (fits : Fits i old pieces) (h : IsRunOver false i.pieces (i.source (joined pieces)) kept run) (adds : AddsAnswers None old.run run) (script : run.script ≡ old.run.script) (done : length run.script.now ≤ length run.told.items) where
  pub finished : (all : Finished ℕ) → all.told ≡ run.told → all.place ≡ run.place
      → Finishes i (script_of old) pieces all
  finished all is_told is_place =
      let words : run.script.now ≡ script_of old = ap (λ s. s.now) script in
      let told = told_of i (script_of old) pieces in
      let len : length told ≡ length (answers_out old.run) = ap length (sym fits.told) ∙ sym (length-map old.run.told.items (λ t. t.answer)) in
      let parts : answers_out run ≡ answers_out old.run ++ adds.more = ap answers_of adds.told ∙ map-append (λ t. t.answer) old.run.told.items (map (under None) adds.more) ∙ ap (λ x. answers_out old.run ++ x) (answers-under None adds.more) in
      let whole : all_answers i (script_of old) pieces ≡ answers_out old.run ++ adds.more = ap (λ s. all_answers i s pieces) (sym words) ∙ sym (end-answers i (joined pieces) kept run h done) ∙ parts in
      let rest_is : drop (length told) (all_answers i (script_of old) pieces) ≡ adds.more = ap (drop (length told)) whole ∙ drop_at (answers_out old.run) adds.more (length told) (sym len) in
      record {
        answers = ap (λ t. t.items) is_told ∙ adds.told ∙ ap (λ t. t ++ map (under None) adds.more) fits.told ∙ ap (λ x. told ++ map (under None) x) (sym rest_is);
        cursor = is_place ∙ end-place i (joined pieces) kept run h done ∙ ap (λ s. place (i.source (joined pieces)) (search_cursor (i.source (joined pieces)) s).index) words;
      }
