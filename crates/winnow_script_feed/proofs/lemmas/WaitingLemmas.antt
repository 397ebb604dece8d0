-- What a feed waits for, derived from the pieces that it fits.
use Rattle.std.proofs.Common.{◌≡◌, ℕ, zero, suc, ◌<◌, Bool, true, false, List, [], ◌∷◌, ◌++◌, length, take, get_or, Option, Some, None, Result, Ok, Err, refl, sym, ap, ◌∙◌, arith, subst, Bor}
use Rattle.std.specs.Prelude.{slice_get, is_some, option_map, IfSome, IsSome, IfOk, OnErr}
use Rattle.std.specs.List.{AllByRecursion}
use Rattle.std.proofs.lemmas.Bool.{le-leb}
use Rattle.std.proofs.lemmas.List.{length-map}
use Rattle.std.proofs.lemmas.Option.{none-some, same_Some, slice_get-get_or}
use Rattle.winnow_stream.specs.Source.{Source, first_offset}
use Rattle.winnow_stream.specs.Cursor.{Cursor, start, rest, cursor_after, answers_from}
use Rattle.winnow_match.specs.Search.{needle_list}
use Rattle.winnow_sets.specs.declared.char_set.CharSet.{CharSet}
use Rattle.winnow_sets.specs.Sets.{char_ranges, least_of_first}
use Rattle.winnow_sets.proofs.lemmas.RangeLemmas.{none_held, least_within}
use Rattle.winnow_script_run.specs.declared.need.Need.{Need}
use Rattle.winnow_script_run.specs.declared.need.Need.TheVariants as need
use Rattle.winnow_script_run.specs.Needs.{call_need, is_met}
use Rattle.winnow_script_run.specs.declared.script.Step.{Step}
use Rattle.winnow_script_run.specs.declared.search_steps.SearchStep.{SearchStep}
use Rattle.winnow_script_run.specs.declared.search_steps.SearchStep.TheVariants as step
use Rattle.winnow_script_run.specs.declared.search_steps.SearchAnswer.TheVariants as search_answered
use Rattle.winnow_script_run.specs.Searching.{PlacedSearchAnswer, search_answer, search_next}
use Rattle.winnow_script_run.specs.Definite.{PieceReading, kind_on_pieces, is_definite}
use Rattle.winnow_script_run.proofs.lemmas.StepLemmas.{Inside, start-inside, rest-more, SameReading, answer-read}
use Rattle.winnow_script_feed.specs.declared.progress.Progress.{Progress}
use Rattle.winnow_script_feed.specs.Inputs.{PieceStep, InputRules, byte_input, joined}
use Rattle.winnow_script_feed.specs.Reach.{Reaches}
use Rattle.winnow_script_feed.specs.JoinedInput.{IsRunOver, IsAtRest, next_step, answers_out}
use Rattle.winnow_script_feed.specs.Feeding.{FeedState, HoldsInput, Fits, script_of}
use Rattle.winnow_script_attempt.specs.Missing.{need_missing, missing}
use Rattle.winnow_script_feed.specs.Waits.{GivesMissing, MissesSome, IsNeedSpelt, IsSpelt, answer_on, waiting_number, waiting_step, waiting_rest, missing_on, IsMissing, WaitsToEnd, MissesMore}
use Rattle.winnow_script_feed.proofs.lemmas.InputLemmas.{IsInput}
use Rattle.winnow_script_feed.proofs.lemmas.SpellingLemmas.{IsSpelling}
use Rattle.winnow_script_feed.proofs.lemmas.ReachLemmas.{Reaches-cursor, Reaches-more}
use Rattle.winnow_script_feed.proofs.lemmas.JoinedInputLemmas.{rest-back}
use Rattle.winnow_script_feed.proofs.lemmas.KeepingLemmas.{stands-inside}
use Rattle.winnow_script_feed.proofs.lemmas.FeedLemmas.{out-is}
use Rattle.winnow_script_feed.proofs.lemmas.MissingLemmas.{step-changes, missing-valid, first-never}

-- a fact that holds also holds if the result is an error
pub on-err : {A E : Type 0} (r : Result A E) (P : Type 0) → P → OnErr r P
on-err (Ok a) P p = tt
on-err (Err e) P p = p

-- a number below the length has an element
at-exists : {X : Type 0} (xs : List X) (n : ℕ) → n < length xs → (x : X) × (slice_get xs n ≡ Some x)
at-exists [] n l = absurd (omega arith)
at-exists (x ∷ xs) zero l = (x, refl)
at-exists (x ∷ xs) (suc n) l = at-exists xs n (omega arith)

-- ---- what a step is missing on the kept input is what it is missing on the joined input

module _ {T L : Type 0} (k : PieceReading T CharSet L) (greatest : ℕ) (spell : ℕ → List ℕ) (kept : Source T) (p : Progress T L) (x : SearchStep CharSet L) (next : next_step p ≡ Some x) (r : Source T) (is : (all : Source T) (h : IsRunOver true k all kept p) → r ≡ rest all h.at) where
  -- a step is missing the same on the kept input as on the joined one
  missing-same : (all : Source T) (h : IsRunOver true k all kept p) (s : SearchStep CharSet L)
      → next_step p ≡ Some s
      → missing k greatest spell r x ≡ missing k greatest spell (rest all h.at) s
  missing-same all h s e = ap (λ b. missing k greatest spell b x) (is all h) ∙ ap (missing k greatest spell (rest all h.at)) (same_Some x s (sym next ∙ e))

  -- the code returns what the step is missing, and is refused memory only if that is something
  pub ok-missing : {A E : Type 0} (bytes : A → List ℕ) (result : Result (Option A) E)
      → IfOk result (λ m. option_map bytes m ≡ missing k greatest spell r x)
      → IfOk result (λ m. GivesMissing k greatest spell kept p (option_map bytes m))
  ok-missing bytes (Ok m) e = λ all h s n. e ∙ missing-same all h s n
  ok-missing bytes (Err f) e = tt

  pub err-missing : {A E : Type 0} (result : Result A E)
      → OnErr result (IsSome (missing k greatest spell r x))
      → OnErr result (MissesSome k greatest spell kept p)
  err-missing (Ok a) e = tt
  err-missing (Err f) e = λ all h s n. ap is_some (sym (missing-same all h s n)) ∙ e

-- the next step's answer is the answer of the script with its number
reached-answer : {T C L : Type 0} (strict : Bool) (k : PieceReading T C L) (all : Source T)
    (s t : Cursor) (steps : List (SearchStep C L)) (gs : List (PlacedSearchAnswer T))
    (x : SearchStep C L) → Reaches strict k all s steps gs t → slice_get steps (length gs) ≡ Some x
    → slice_get (answers_from (search_answer (kind_on_pieces k) all) (search_next all) steps s)
    (length gs) ≡ Some (search_answer (kind_on_pieces k) all x t)
reached-answer strict k all s t [] [] x r e = absurd (none-some x e)
reached-answer strict k all s t (y ∷ steps) [] x r e = let same : y ≡ x = same_Some y x e in rw (r, same) refl
reached-answer strict k all s t [] (a ∷ gs) x r e = elim r [ ]
reached-answer strict k all s t (y ∷ steps) (a ∷ gs) x r e = reached-answer strict k all (search_next all y s) t steps gs x r.2 e

-- ---- a feed that holds an input, where its next step waits

-- if a step remains, there is a next step
pub next-exists : {T L : Type 0} (p : Progress T L) → length p.told.items < length p.script.now
    → (s : SearchStep CharSet L) × (next_step p ≡ Some s)
next-exists p l = at-exists p.script.now (length p.told.items) l

-- the next step names what fits the kind of input, if the step of the script at its number does
pub next-spelt : (i : InputRules) (p : Progress ℕ (Bor (List ℕ))) (n : ℕ) (d : PieceStep)
    → n ≡ length p.told.items → n < length p.script.now → IsSpelt i (get_or p.script.now n d)
    → (s : PieceStep) × (next_step p ≡ Some s) × IsSpelt i s
next-spelt i p n d e l spelt = (get_or p.script.now n d, ap (slice_get p.script.now) (sym e) ∙ slice_get-get_or p.script.now n d l, spelt)

module _ (i : InputRules) (law : IsInput i) (spelling : IsSpelling i) (f : FeedState) (J : List ℕ) (h : HoldsInput i f J) (rests : IsAtRest i.pieces (i.source J) f.run) (s : PieceStep) (next : next_step f.run ≡ Some s) where
  -- the cursor is inside the input
  pub inside : Inside (i.source J) h.stands.at
  inside = stands-inside i.pieces (i.source J) (i.source f.kept) f.run h.stands

  -- the step is not definite there
  pub waits : is_definite i.pieces s (rest (i.source J) h.stands.at) ≡ false
  waits = ap (is_definite i.pieces s) (sym (rest-back true i.pieces (i.source J) (i.source f.kept) f.run h.stands s next)) ∙ rests s next

  -- what the step is missing is valid input
  pub missing-input : (m : List ℕ) → IsSpelt i s
      → Some m ≡ missing i.pieces i.greatest i.pieces.write (rest (i.source J) h.stands.at) s
      → i.valid m ≡ true
  missing-input m u e = missing-valid i law spelling J h.stands.at inside m h.is_input s waits u (sym e)

-- ---- the same for pieces that the feed fits

module _ (i : InputRules) (law : IsInput i) (spelling : IsSpelling i) (f : FeedState) (pieces : List (List ℕ)) (h : Fits i f pieces) (some : 0 < length pieces) (s : PieceStep) (next : next_step f.run ≡ Some s) where
  abbrev J : List ℕ
  J = joined pieces

  abbrev all : Source ℕ
  all = i.source (joined pieces)

  abbrev st : IsRunOver true i.pieces (i.source (joined pieces)) (i.source f.kept) f.run
  st = h.stands.stands

  -- the answers are as many as were appended
  told-length : length (answers_out f.run) ≡ length f.run.told.items
  told-length = length-map f.run.told.items (λ t. t.answer)

  -- the number of the waiting step is the number of answers
  number-is : waiting_number i (script_of f) J ≡ length (answers_out f.run)
  number-is = ap length (out-is i law all (i.source f.kept) f.run st (h.rests some))

  -- the step with that number is the next step
  next-told : slice_get f.run.script.now (length (answers_out f.run)) ≡ Some s
  next-told = ap (slice_get f.run.script.now) told-length ∙ next

  -- the waiting step on the input is the next step of the run
  pub step-is : waiting_step i (script_of f) J ≡ Some s
  step-is = ap (slice_get f.run.script.now) number-is ∙ next-told

  -- what remains on the input is what remains at the run's cursor
  pub rest-is : waiting_rest i (script_of f) J ≡ rest all st.at
  rest-is =
      ap (λ n. rest all (cursor_after (search_next all) (take n f.run.script.now) start)) number-is
      ∙ ap (rest all) (Reaches-cursor true i.pieces all start st.at f.run.script.now (answers_out f.run) st.reaches)

  -- what the waiting step is missing is what the run's next step is missing
  pub missing-is : missing_on i (script_of f) J s
      ≡ missing i.pieces i.greatest i.pieces.write (rest all st.at) s
  missing-is = ap (λ r. missing i.pieces i.greatest i.pieces.write r s) rest-is

  -- the cursor is inside the input
  within : Inside all st.at
  within = inside i law spelling f J h.stands (h.rests some) s next

  -- the step is not definite there
  indefinite : is_definite i.pieces s (rest all st.at) ≡ false
  indefinite = waits i law spelling f J h.stands (h.rests some) s next

  -- the answer on the input is the step's answer at the run's cursor
  answer-is : answer_on i (script_of f) (waiting_number i (script_of f) J) J
      ≡ Some (search_answer (kind_on_pieces i.pieces) all s st.at)
  answer-is =
      ap (slice_get (answers_from (search_answer (kind_on_pieces i.pieces) all) (search_next all) f.run.script.now start)) number-is
      ∙ reached-answer true i.pieces all start st.at f.run.script.now (answers_out f.run) s st.reaches next-told

  -- with more input, the step's answer is the answer of the script with its number
  answer-more : (m : List ℕ)
      → answer_on i (script_of f) (waiting_number i (script_of f) J) (J ++ m)
      ≡ Some (search_answer (kind_on_pieces i.pieces) (all ++ i.source m) s st.at)
  answer-more m =
      let longer = Reaches-more i.pieces all (i.source m) start st.at f.run.script.now (answers_out f.run) (start-inside all) st.reaches in
      ap (λ src. slice_get (answers_from (search_answer (kind_on_pieces i.pieces) src) (search_next src) f.run.script.now start) (waiting_number i (script_of f) J)) (law.split J m h.stands.is_input)
      ∙ ap (slice_get (answers_from (search_answer (kind_on_pieces i.pieces) (all ++ i.source m)) (search_next (all ++ i.source m)) f.run.script.now start)) number-is
      ∙ reached-answer true i.pieces (all ++ i.source m) start st.at f.run.script.now (answers_out f.run) s longer next-told

  -- what the step is missing is valid and changes its answer
  pub is-missing : (m : List ℕ) → IsSpelt i s
      → Some m ≡ missing i.pieces i.greatest i.pieces.write (rest all st.at) s
      → IsMissing i (script_of f) J m
  is-missing m u e =
      let v = missing-input i law spelling f J h.stands (h.rests some) s next m u e in
      record {
        s = s;
        waits = step-is;
        named = missing-is ∙ sym e;
        valid = v;
        changes = λ same. step-changes i law spelling J st.at within m s indefinite u v (sym e) (same_Some _ _ (sym (answer-more m) ∙ same ∙ answer-is));
      }

  -- a step waits and is missing something
  pub misses-more : IsSome (missing i.pieces i.greatest i.pieces.write (rest all st.at) s)
      → MissesMore i (script_of f) pieces
  misses-more e = (some, (s, step-is, ap is_some missing-is ∙ e))

-- ---- no input changes the answer of a step that waits to the end

-- an option whose mapped value is `None` is `None`
mapped-none : (spell : ℕ → List ℕ) (o : Option ℕ) → None ≡ option_map spell o → o ≡ None
mapped-none spell None e = refl
mapped-none spell (Some t) e = absurd (none-some (spell t) e)

-- if a set holds no token of the kind, it holds none of these tokens
none-hold : (i : InputRules) (holds : ℕ → Bool) (m : Source ℕ)
    → ((t : ℕ) → i.is_token t ≡ true → holds t ≡ false)
    → AllByRecursion (λ (x : ℕ × ℕ). i.is_token x.0 ≡ true) m
    → AllByRecursion (λ (x : ℕ × ℕ). holds x.0 ≡ false) m
none-hold i holds [] f h = tt
none-hold i holds (x ∷ m) f h = (f x.0 h.0, none-hold i holds m f h.1)

module _ (i : InputRules) (law : IsInput i) (spelling : IsSpelling i) (f : FeedState) (pieces : List (List ℕ)) (h : Fits i f pieces) (some : 0 < length pieces) where
  -- a call that needs a token of such a set waits to the end
  set-waits : (x : Step CharSet) (set : CharSet) → call_need x ≡ need.TokenOf set
      → next_step f.run ≡ Some (step.Call x) → least_of_first i.greatest (char_ranges set) ≡ None
      → WaitsToEnd i (script_of f) (joined pieces)
  set-waits x set needs next e =
      let s : PieceStep = step.Call x in
      let at : Cursor = h.stands.stands.at in
      let all : Source ℕ = i.source (joined pieces) in
      let none : (t : ℕ) → i.is_token t ≡ true → i.pieces.holds set t ≡ false = λ t u. spelling.holds_is set t ∙ none_held i.greatest (char_ranges set) e t (spelling.token_most t u) in
      let waits : is_met i.pieces.holds i.pieces.counts_shortage (need.TokenOf set) (rest all at) ≡ false = subst (λ n. is_met i.pieces.holds i.pieces.counts_shortage n (rest all at) ≡ false) needs (indefinite i law spelling f pieces h some s next) in
      record {
        call = x;
        waits = step-is i law spelling f pieces h some s next;
        set = set;
        needs = needs;
        holds_none = none;
        never = λ m bytes v.
            let tokens = none-hold i (i.pieces.holds set) (i.source m) none (spelling.tokens m bytes v) in
            let more = rest-more i.pieces all (i.source m) at (within i law spelling f pieces h some s next) in
            let same = ap (first_offset (i.pieces.holds set)) more ∙ first-never (i.pieces.holds set) (rest all at) (i.source m) waits tokens in
            let reads : SameReading i.pieces.holds i.pieces.counts_shortage (call_need x) (rest (all ++ i.source m) at) (rest all at) = subst (λ n. SameReading i.pieces.holds i.pieces.counts_shortage n (rest (all ++ i.source m) at) (rest all at)) (sym needs) same in
            answer-more i law spelling f pieces h some s next m
            ∙ ap (λ a. Some (search_answered.Call a)) (answer-read i.pieces all (i.source m) at (within i law spelling f pieces h some s next) x reads)
            ∙ sym (answer-is i law spelling f pieces h some s next);
      }

  -- a call that is missing nothing waits to the end
  call-to_end : (x : Step CharSet) (n : Need CharSet) → call_need x ≡ n
      → next_step f.run ≡ Some (step.Call x)
      → None
      ≡ need_missing i.pieces.counts_shortage i.greatest i.pieces.write
      (rest (i.source (joined pieces)) h.stands.stands.at) n
      → WaitsToEnd i (script_of f) (joined pieces)
  call-to_end x (need.TokenOf set) needs next e = set-waits x set needs next (mapped-none i.pieces.write (least_of_first i.greatest (char_ranges set)) e)
  call-to_end x need.Nothing needs next e = absurd (none-some _ e)
  call-to_end x need.Token needs next e = absurd (none-some _ e)
  call-to_end x (need.Width n) needs next e = absurd (none-some _ e)
  call-to_end x (need.Tokens n) needs next e = absurd (none-some _ e)
  call-to_end x need.End needs next e = absurd (none-some _ e)

  -- a step that is missing nothing waits to the end
  pub to-end : (s : PieceStep) → next_step f.run ≡ Some s
      → None
      ≡ missing i.pieces i.greatest i.pieces.write
      (rest (i.source (joined pieces)) h.stands.stands.at) s
      → WaitsToEnd i (script_of f) (joined pieces)
  to-end (step.Call x) next e = call-to_end x (call_need x) refl next e
  to-end (step.Compare l) next e = absurd (none-some _ e)
  to-end (step.Find ns) next e = absurd (none-some _ e)

-- ---- a step over bytes always names valid bytes

-- all needles are valid bytes
all-valid : (ls : List (List ℕ)) → AllByRecursion (λ needle. byte_input.valid needle ≡ true) ls
all-valid [] = tt
all-valid (l ∷ ls) = (refl, all-valid ls)

-- a lower bound that is at most 255 is a byte
least-byte : (ranges : List (ℕ × ℕ)) (o : Option ℕ) → least_of_first 255 ranges ≡ o
    → IfSome o (λ t. byte_input.is_token t ≡ true)
least-byte ranges None e = tt
least-byte ranges (Some t) e = le-leb t 255 (least_within 255 ranges t e)

-- each need over bytes names what fits bytes
need-spelt : (n : Need CharSet) → IsNeedSpelt byte_input n
need-spelt (need.TokenOf set) = least-byte (char_ranges set) (least_of_first 255 (char_ranges set)) refl
need-spelt need.Nothing = tt
need-spelt need.Token = tt
need-spelt (need.Width n) = tt
need-spelt (need.Tokens n) = tt
need-spelt need.End = tt

-- each step over bytes names what fits bytes
pub bytes-spelt : (s : PieceStep) → IsSpelt byte_input s
bytes-spelt (step.Call s) = need-spelt (call_need s)
bytes-spelt (step.Compare l) = refl
bytes-spelt (step.Find ns) = all-valid (needle_list byte_input.pieces.literal ns)
