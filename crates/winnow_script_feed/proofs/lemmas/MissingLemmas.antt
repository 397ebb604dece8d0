-- Appending what a step is missing changes its answer: one lemma for each definition, then for each
-- step.
use Rattle.std.proofs.Common.{◌≡◌, ℕ, ◌+◌, ◌-◌, ◌≤◌, ◌<◌, Bool, true, false, cond, List, [], ◌∷◌, ◌++◌, length, take, drop, Option, Some, None, Result, Ok, Err, refl, ap, sym, ◌∙◌, arith, subst, inl, inr}
use Rattle.std.specs.Prelude.{nat_le, is_some, is_ok, option_map, IfSome}
use Rattle.std.specs.List.{AllByRecursion}
use Rattle.std.specs.declared.ops.Range.{Range}
use Rattle.std.proofs.lemmas.Bool.{false≢true, cases_Bool, leb-false, le-leb, lt-leb}
use Rattle.std.proofs.lemmas.Option.{none-some, same_Some}
use Rattle.std.proofs.lemmas.List.{length-append, append-nil}
use Rattle.winnow_stream.specs.declared.needed.Needed.{Needed}
use Rattle.winnow_stream.specs.declared.needed.Needed.TheVariants.{Unknown}
use Rattle.winnow_stream.specs.Source.{Source, width, HasPositiveWidths, first_token, first_held, first_offset, offsets_from}
use Rattle.winnow_stream.specs.Front.{front_count, is_offset, count_to, front}
use Rattle.winnow_stream.specs.Shortage.{needed, offset_at}
use Rattle.winnow_stream.specs.Cursor.{Cursor, rest, place}
use Rattle.winnow_stream.specs.Span.{span}
use Rattle.winnow_stream.proofs.lemmas.FrontLemmas.{width-front, width-take_drop, is_offset-whole, HasPositiveWidths-drop}
use Rattle.winnow_match.specs.Bytes.{written}
use Rattle.winnow_match.specs.Comparison.{comparison}
use Rattle.winnow_match.specs.Search.{hit, needle_list}
use Rattle.winnow_match.specs.declared.compare.CompareResult.{CompareResult}
use Rattle.winnow_match.specs.declared.compare.CompareResult.TheVariants as compared
use Rattle.winnow_match.specs.declared.needles.Needles.{Needles}
use Rattle.winnow_match.specs.declared.needles.Needles.TheVariants.{One, Two, Three}
use Rattle.winnow_match.proofs.lemmas.ComparisonLemmas.{ok-says, incomplete-says}
use Rattle.winnow_match.proofs.lemmas.ByteFrontLemmas.{front_rest, is_prefix-IsPrefixOf}
use Rattle.winnow_sets.specs.declared.char_set.CharSet.{CharSet}
use Rattle.winnow_sets.specs.Sets.{char_ranges, least_of_first}
use Rattle.winnow_sets.proofs.lemmas.RangeLemmas.{least_held}
use Rattle.winnow_script_run.specs.declared.need.Need.{Need}
use Rattle.winnow_script_run.specs.declared.need.Need.TheVariants as need
use Rattle.winnow_script_run.specs.Needs.{call_need}
use Rattle.winnow_script_run.specs.declared.script.Step.{Step}
use Rattle.winnow_script_run.specs.declared.script.Step.TheVariants as call
use Rattle.winnow_script_run.specs.declared.script.Answer.TheVariants as answer
use Rattle.winnow_script_run.specs.Script.{PlacedAnswer, slice_answer, step_answer}
use Rattle.winnow_script_run.specs.declared.search_steps.SearchStep.TheVariants as step
use Rattle.winnow_script_run.specs.declared.search_steps.SearchAnswer.TheVariants as search_answered
use Rattle.winnow_script_run.specs.Searching.{PlacedSearchAnswer, search_answer}
use Rattle.winnow_script_run.specs.Definite.{kind_on_pieces, is_decided, is_call_definite, is_definite}
use Rattle.winnow_script_run.proofs.lemmas.StepLemmas.{Inside, place-more, rest-more}
use Rattle.winnow_stream.proofs.lemmas.CountedShortageLemmas.{number, number-needed}
use Rattle.winnow_script_attempt.proofs.lemmas.AttemptLemmas.{none-from_is_some}
use Rattle.winnow_match.specs.Staying.{written-append}
use Rattle.winnow_script_run.proofs.lemmas.MoreLemmas.{width-append}
use Rattle.winnow_script_feed.specs.Inputs.{PieceStep, InputRules}
use Rattle.winnow_script_attempt.specs.Missing.{letters, needle_missing, need_missing, missing}
use Rattle.winnow_script_feed.specs.Waits.{IsNeedSpelt, IsSpelt}
use Rattle.winnow_script_feed.proofs.lemmas.InputLemmas.{IsInput}
use Rattle.winnow_script_feed.proofs.lemmas.KeepingLemmas.{HasPositiveWidths-append}
use Rattle.winnow_script_feed.proofs.lemmas.SpellingLemmas.{IsSpelling}
use Rattle.winnow_script_attempt.proofs.lemmas.NeedleLemmas.{needle-changes}

-- ---- one definition at a time

-- a first token that was missing is there once anything follows
token-changes : {T : Type 0} (r m : Source T) → is_some (first_token r) ≡ false → 0 < length m
    → ¬ (first_token (r ++ m) ≡ first_token r)
token-changes [] [] h l e = omega (arith, l)
token-changes [] (t ∷ m) h l e = none-some t.0 (sym e)
token-changes (t ∷ r) m h l e = false≢true (sym h)

module _ {T : Type 0} (r : Source T) (n : ℕ) where
  -- a front is no wider than the whole
  width-front_le : width (front r n) ≤ width r
  width-front_le = omega (arith, width-take_drop r (count_to r n))

  -- an offset past the width is not valid
  offset-short : width r < n → is_offset r n ≡ false
  offset-short l = elim (cases_Bool (is_offset r n)) [ inl e ↦ absurd (omega (arith, l, width-front r n e, width-front_le)) | inr e ↦ e ]

-- the width itself is a valid offset
offset-full : {T : Type 0} (r : Source T) (n : ℕ) → HasPositiveWidths r → width r ≡ n
    → is_offset r n ≡ true
offset-full r n h e = subst (λ k. is_offset r k ≡ true) e (is_offset-whole r h)

-- a slice answer with a slice differs from one without
slice-apart : {T : Type 0} (a b n : ℕ) (o p : Option ℕ) → is_some o ≡ true → is_some p ≡ false
    → ¬ (slice_answer {T = T} a n o ≡ slice_answer {T = T} b n p)
slice-apart a b n None p h g e = false≢true h
slice-apart a b n (Some c) None h g e = cc
slice-apart a b n (Some c) (Some d) h g e = false≢true (sym g)

-- a found offset and a shortage, or two shortages that differ, are different answers
at-apart : (w : ℕ) (a b : Needed) (c : Bool) → (c ≡ false → ¬ (a ≡ b))
    → ¬ (cond c (Ok w) (Err a) ≡ Err b)
at-apart w a b true f e = cc
at-apart w a b false f e = f refl cc

-- a token of the set that follows is found
held-reaches : {T : Type 0} (holds : T → Bool) (k : ℕ) (r : Source T) (t : T) (w : ℕ)
    → holds t ≡ true → is_some (first_held holds (offsets_from k (r ++ (t, w) ∷ []))) ≡ true
held-reaches holds k [] t w h = rw h refl
held-reaches holds k (x ∷ r) t w h =
    elim (cases_Bool (holds x.0)) [
      | inl e ↦ rw e refl
      | inr e ↦ rw e (held-reaches holds (k + x.1) r t w h)
    ]

-- a comparison that is not decided is `Incomplete`
pub incomplete-from : (c : CompareResult) → is_decided c ≡ false → c ≡ compared.Incomplete
incomplete-from (compared.Ok n) h = absurd (false≢true (sym h))
incomplete-from compared.Incomplete h = refl
incomplete-from compared.Error h = absurd (false≢true (sym h))

-- an undecided comparison changes when the rest of the literal follows
comparison-changes : (l b : List ℕ) → is_decided (comparison l b) ≡ false
    → ¬ (comparison l (b ++ drop (length b) l) ≡ comparison l b)
comparison-changes l b h e =
    let i = incomplete-from (comparison l b) h in
    let f = ((incomplete-says l b).0 i).0 in
    let whole : b ++ drop (length b) l ≡ l = sym (front_rest b l (is_prefix-IsPrefixOf b l f)) in
    let ok : comparison l (b ++ drop (length b) l) ≡ compared.Ok (length l) = (ok-says l (b ++ drop (length b) l) (length l)).1 (([], whole ∙ sym (append-nil l)), refl) in
    let apart : ◌≡◌ {A = CompareResult} (compared.Ok (length l)) compared.Incomplete = sym ok ∙ e ∙ i in
    cc

-- a search has at least one needle
pub some-needles : {L : Type 0} (f : L → List ℕ) (needles : Needles L)
    → 0 < length (needle_list f needles)
some-needles f (One a) = omega arith
some-needles f (Two a b) = omega arith
some-needles f (Three a b c) = omega arith

-- an `At` without an offset has too few tokens
at-short : (b : Bool) (r : Source ℕ) (n : ℕ) → is_ok (offset_at b r n) ≡ false → length r < n
at-short b r n h =
    elim (cases_Bool (nat_le n (length r))) [
      | inl e ↦ absurd (false≢true (sym (rw e at h)))
      | inr e ↦ leb-false n (length r) e
    ]

-- an `At` answers differently when the missing tokens follow
at-changes : (b : Bool) (r m : Source ℕ) (n : ℕ) → length r < n
    → length m ≡ cond b 1 (n - length r) → ¬ (offset_at b (r ++ m) n ≡ offset_at b r n)
at-changes true r m n l w e =
    let short : nat_le n (length r) ≡ false = lt-leb n (length r) l in
    let was : offset_at true r n ≡ Err (needed (n - length r)) = rw short refl in
    let k : ℕ = n - length (r ++ m) in
    at-apart (width (take n (r ++ m))) (needed k) (needed (n - length r)) (nat_le n (length (r ++ m)))
    (λ _ same.
    let f : k ≡ n - length r = sym (number-needed k) ∙ ap number same ∙ number-needed (n - length r) in
    omega (arith, f, l, w, length-append r m)) (e ∙ was)
at-changes false r m n l w e =
    let short : nat_le n (length r) ≡ false = lt-leb n (length r) l in
    let was : offset_at false r n ≡ Err Unknown = rw short refl in
    let fits : nat_le n (length (r ++ m)) ≡ true = le-leb n (length (r ++ m)) (omega (arith, l, w, length-append r m)) in
    at-apart (width (take n (r ++ m))) Unknown Unknown (nat_le n (length (r ++ m))) (λ f _. false≢true (sym f ∙ fits)) (e ∙ was)

-- a `First` without a hit answers differently when a token of the set follows
first-changes : (holds : ℕ → Bool) (r : Source ℕ) (t w : ℕ) → holds t ≡ true
    → is_some (first_offset holds r) ≡ false
    → ¬ (first_offset holds (r ++ (t, w) ∷ []) ≡ first_offset holds r)
first-changes holds r t w f h e = false≢true (sym h ∙ sym (ap is_some e) ∙ held-reaches holds 0 r t w f)

-- ---- equal answers have equal parts

-- equal answers of each kind hold equal values
token-parts : (a b : Option ℕ) → ◌≡◌ {A = PlacedAnswer ℕ} (answer.Token a) (answer.Token b) → a ≡ b
token-parts a b e = cc

offset-parts : (a b : ℕ) → ◌≡◌ {A = PlacedAnswer ℕ} (answer.Offset a) (answer.Offset b) → a ≡ b
offset-parts a b e = cc

flag-parts : (a b : Bool) → ◌≡◌ {A = PlacedAnswer ℕ} (answer.Flag a) (answer.Flag b) → a ≡ b
flag-parts a b e = cc

at-parts : (a b : Result ℕ Needed) → ◌≡◌ {A = PlacedAnswer ℕ} (answer.At a) (answer.At b) → a ≡ b
at-parts a b e = cc

first-parts : (a b : Option ℕ) → ◌≡◌ {A = PlacedAnswer ℕ} (answer.First a) (answer.First b) → a ≡ b
first-parts a b e = cc

slice-parts : (a b : Range ℕ) → ◌≡◌ {A = PlacedAnswer ℕ} (answer.Slice a) (answer.Slice b) → a ≡ b
slice-parts a b e = cc

items-parts : (a b : Range ℕ) → ◌≡◌ {A = PlacedAnswer ℕ} (answer.Items a) (answer.Items b) → a ≡ b
items-parts a b e = cc

call-parts : (a b : PlacedAnswer ℕ)
    → ◌≡◌ {A = PlacedSearchAnswer ℕ} (search_answered.Call a) (search_answered.Call b) → a ≡ b
call-parts a b e = cc

compared-parts : (a b : CompareResult)
    → ◌≡◌ {A = PlacedSearchAnswer ℕ} (search_answered.Compared a) (search_answered.Compared b)
    → a ≡ b
compared-parts a b e = cc

hit-parts : (a b : Option (Range ℕ))
    → ◌≡◌ {A = PlacedSearchAnswer ℕ} (search_answered.Hit a) (search_answered.Hit b) → a ≡ b
hit-parts a b e = cc

-- ---- a call, where m follows

module _ (i : InputRules) (law : IsInput i) (spelling : IsSpelling i) (J : List ℕ) (at : Cursor) (inside : Inside (i.source J) at) where
  abbrev r : Source ℕ
  r = rest (i.source J) at

  -- what remains if these bytes follow
  abbrev more : List ℕ → Source ℕ
  more m = rest (i.source J ++ i.source m) at

  abbrev Differs : Step CharSet → List ℕ → Type 0
  Differs s m =
      ¬ (step_answer i.pieces.holds i.pieces.counts_shortage (i.source J ++ i.source m) s at ≡ step_answer i.pieces.holds i.pieces.counts_shortage (i.source J) s at)

  -- what remains with bytes appended is the old rest and the bytes' tokens
  more-is : (m : List ℕ) → more m ≡ r ++ i.source m
  more-is m = rest-more i.pieces (i.source J) (i.source m) at inside

  -- n letters add n to the width
  width-more : (n : ℕ) → width (more (letters n)) ≡ width r + n
  width-more n = ap width (more-is (letters n)) ∙ width-append r (i.source (letters n)) ∙ ap (λ k. width r + k) (spelling.letters_width n)

  -- the widths stay positive with bytes appended
  widths-more : (m : List ℕ) → HasPositiveWidths (r ++ i.source m)
  widths-more m = HasPositiveWidths-append r (i.source m) (HasPositiveWidths-drop at.index (i.source J) (law.widths J)) (law.widths m)

  -- with the missing letters, the offset is valid
  full : (n : ℕ) → width r < n → is_offset (more (letters (n - width r))) n ≡ true
  full n l =
      let m : List ℕ = letters (n - width r) in
      offset-full (more m) n (subst HasPositiveWidths (sym (more-is m)) (widths-more m)) (omega (arith, l, width-more (n - width r)))

  -- each answer of a call changes when what is missing follows
  token-differs : is_some (first_token r) ≡ false
      → ¬
      (◌≡◌ {A = PlacedAnswer ℕ} (answer.Token (first_token (more (letters 1))))
      (answer.Token (first_token r)))
  token-differs h e =
      let one : 0 < length (i.source (letters 1)) = omega (arith, spelling.letters_length 1) in
      token-changes r (i.source (letters 1)) h one (sym (ap first_token (more-is (letters 1))) ∙ token-parts (first_token (more (letters 1))) (first_token r) e)

  end-differs : (a b : ℕ) → a ≡ b → ¬ (span a (width (more (letters 1))) ≡ span b (width r))
  end-differs a b same e =
      let f : a + width (more (letters 1)) ≡ b + width r = ap (λ (x : Range ℕ). x.end) e in
      omega (arith, f, same, width-more 1)

  -- the cursor's place stays the same
  here : place (i.source J ++ i.source (letters 1)) at.index ≡ place (i.source J) at.index
  here = place-more (i.source J) (i.source (letters 1)) at.index inside.index

  -- an answer with a slice, an offset, a flag or a token of the set changes too
  slice-differs : (n : ℕ) → nat_le n (width r) ≡ false
      → ¬ (slice_answer {T = ℕ} (place (i.source J
      ++ i.source (letters (n - width r))) at.index) n
      (front_count (more (letters (n - width r))) n)
      ≡ slice_answer {T = ℕ} (place (i.source J) at.index) n (front_count r n))
  slice-differs n h e =
      let l = leb-false n (width r) h in
      let m : List ℕ = letters (n - width r) in
      slice-apart (place (i.source J ++ i.source m) at.index) (place (i.source J) at.index) n (front_count (more m) n) (front_count r n) (full n l) (offset-short r n l) e

  at-differs : (n k : ℕ) → is_ok (offset_at i.pieces.counts_shortage r n) ≡ false
      → k ≡ cond i.pieces.counts_shortage 1 (n - length r)
      → ¬ (offset_at i.pieces.counts_shortage (more (letters k)) n
      ≡ offset_at i.pieces.counts_shortage r n)
  at-differs n k h is e =
      let m : List ℕ = letters k in
      at-changes i.pieces.counts_shortage r (i.source m) n (at-short i.pieces.counts_shortage r n h) (spelling.letters_length k ∙ is) (sym (ap (λ x. offset_at i.pieces.counts_shortage x n) (more-is m)) ∙ e)

  flag-differs : (n : ℕ) → nat_le n (width r) ≡ false
      → ¬ (is_offset (more (letters (n - width r))) n ≡ is_offset r n)
  flag-differs n h e =
      let l = leb-false n (width r) h in
      false≢true (sym (offset-short r n l) ∙ sym e ∙ full n l)

  first-differs : (set : CharSet) (t : ℕ) → is_some (first_offset (i.pieces.holds set) r) ≡ false
      → least_of_first i.greatest (char_ranges set) ≡ Some t → i.is_token t ≡ true
      → ¬ (first_offset (i.pieces.holds set) (more (i.pieces.write t))
      ≡ first_offset (i.pieces.holds set) r)
  first-differs set t h e u f =
      let holds : ℕ → Bool = i.pieces.holds set in
      let same : first_offset holds (r ++ (t, spelling.token_width t) ∷ []) ≡ first_offset holds r = ap (λ x. first_offset holds (r ++ x)) (sym (spelling.token_is t u)) ∙ sym (ap (first_offset holds) (more-is (i.pieces.write t))) ∙ f in
      first-changes holds r t (spelling.token_width t) (spelling.holds_is set t ∙ least_held i.greatest (char_ranges set) t e) h same

  -- appending the token that is spelt changes the answer of `First`
  first-names : (set : CharSet) (m : List ℕ)
      → is_some (first_offset (i.pieces.holds set) r) ≡ false
      → IsSpelt i (step.Call (call.First set)) → (o : Option ℕ)
      → least_of_first i.greatest (char_ranges set) ≡ o → option_map i.pieces.write o ≡ Some m
      → Differs (call.First set) m
  first-names set m h u None e is = absurd (none-some m is)
  first-names set m h u (Some t) e is = λ f.
      let spelt : i.is_token t ≡ true = rw e at u in
      let same : i.pieces.write t ≡ m = same_Some (i.pieces.write t) m is in
      first-differs set t h e spelt (rw same (first-parts (first_offset (i.pieces.holds set) (more m)) (first_offset (i.pieces.holds set) r) f))

  module _ (m : List ℕ) where
    -- a call that is missing letters answers differently when they follow
    by-letters : (s : Step CharSet) (n : ℕ) → Differs s (letters n) → Some (letters n) ≡ Some m
        → Differs s m
    by-letters s n d is = subst (Differs s) (same_Some (letters n) m is) d

    -- each call that is not definite answers differently when what is missing follows
    call-changes : (s : Step CharSet)
        → is_call_definite i.pieces.holds i.pieces.counts_shortage s r ≡ false
        → IsSpelt i (step.Call s)
        → need_missing i.pieces.counts_shortage i.greatest i.pieces.write r (call_need s) ≡ Some m
        → Differs s m
    call-changes call.Next h u is = by-letters call.Next 1 (token-differs h) is
    call-changes call.Peek h u is = by-letters call.Peek 1 (token-differs h) is
    call-changes (call.Take n) h u is = by-letters (call.Take n) (n - width r) (slice-differs n h) is
    call-changes (call.Look n) h u is = by-letters (call.Look n) (n - width r) (slice-differs n h) is
    call-changes call.Finish h u is = by-letters call.Finish 1 (λ e. end-differs _ _ here (slice-parts _ _ e)) is
    call-changes call.PeekFinish h u is = by-letters call.PeekFinish 1 (λ e. end-differs _ _ here (slice-parts _ _ e)) is
    call-changes call.Eof h u is = by-letters call.Eof 1 (λ e. omega (arith, width-more 1, offset-parts (width (more (letters 1))) (width r) e)) is
    call-changes (call.At n) h u is =
        let k : ℕ = cond i.pieces.counts_shortage 1 (n - length r) in
        by-letters (call.At n) k (λ e. at-differs n k h refl (at-parts _ _ e)) is
    call-changes (call.IsOffset n) h u is = by-letters (call.IsOffset n) (n - width r) (λ e. flag-differs n h (flag-parts _ _ e)) is
    call-changes (call.First set) h u is = first-names set m h u (least_of_first i.greatest (char_ranges set)) refl is
    call-changes call.Each h u is = by-letters call.Each 1 (λ e. end-differs _ _ here (items-parts _ _ e)) is
    call-changes call.Mark h u is = absurd (false≢true (sym h))
    call-changes (call.Reset k) h u is = absurd (false≢true (sym h))
    call-changes (call.Since k) h u is = absurd (false≢true (sym h))

    -- ---- one step

    -- the bytes of what remains are the old ones and those that follow
    bytes-are : i.valid m ≡ true → written i.pieces.write (more m) ≡ written i.pieces.write r ++ m
    bytes-are v = ap (written i.pieces.write) (more-is m) ∙ written-append i.pieces.write r (i.source m) ∙ ap (λ xs. written i.pieces.write r ++ xs) (spelling.spells m v)

    -- each step that is not definite answers differently when what is missing follows
    pub step-changes : (s : PieceStep) → is_definite i.pieces s r ≡ false → IsSpelt i s
        → i.valid m ≡ true → missing i.pieces i.greatest i.pieces.write r s ≡ Some m
        → ¬ (search_answer (kind_on_pieces i.pieces) (i.source J ++ i.source m) s at
        ≡ search_answer (kind_on_pieces i.pieces) (i.source J) s at)
    step-changes (step.Call s) h u v is = λ e. call-changes s h u is (call-parts _ _ e)
    step-changes (step.Compare literal) h u v is = λ e.
        let l : List ℕ = i.pieces.literal literal in
        let b : List ℕ = written i.pieces.write r in
        let same : drop (length b) l ≡ m = same_Some (drop (length b) l) m is in
        let f = compared-parts (comparison l (written i.pieces.write (more m))) (comparison l b) e in
        comparison-changes l b h (ap (λ x. comparison l (b ++ x)) same ∙ sym (ap (comparison l) (bytes-are v)) ∙ f)
    step-changes (step.Find needles) h u v is = λ e.
        let ls : List (List ℕ) = needle_list i.pieces.literal needles in
        let b : List ℕ = written i.pieces.write r in
        let same : needle_missing ls b ≡ m = same_Some (needle_missing ls b) m is in
        let f = hit-parts (hit ls (written i.pieces.write (more m))) (hit ls b) e in
        needle-changes ls b (some-needles i.pieces.literal needles) h (ap (λ x. hit ls (b ++ x)) same ∙ sym (ap (hit ls) (bytes-are v)) ∙ f)

    -- ---- what is missing is valid input

    -- what is missing is valid if it is letters or the bytes of a token
    of-letters : (n : ℕ) → Some (letters n) ≡ Some m → i.valid m ≡ true
    of-letters n is = subst (λ x. i.valid x ≡ true) (same_Some (letters n) m is) (spelling.letters_valid n)

    of-token : (o : Option ℕ) → IfSome o (λ t. i.is_token t ≡ true)
        → option_map i.pieces.write o ≡ Some m → i.valid m ≡ true
    of-token None u is = absurd (none-some m is)
    of-token (Some t) u is = subst (λ x. i.valid x ≡ true) (same_Some (i.pieces.write t) m is) (spelling.token_valid t u)

    -- what a need is missing is valid input
    need-valid : (n : Need CharSet) → IsNeedSpelt i n
        → need_missing i.pieces.counts_shortage i.greatest i.pieces.write r n ≡ Some m
        → i.valid m ≡ true
    need-valid need.Nothing u is = of-letters 1 is
    need-valid need.Token u is = of-letters 1 is
    need-valid (need.Width n) u is = of-letters (n - width r) is
    need-valid (need.Tokens n) u is = of-letters (cond i.pieces.counts_shortage 1 (n - length r)) is
    need-valid (need.TokenOf set) u is = of-token (least_of_first i.greatest (char_ranges set)) u is
    need-valid need.End u is = of-letters 1 is

    -- what a step is missing is valid input
    pub missing-valid : i.valid J ≡ true → (s : PieceStep) → is_definite i.pieces s r ≡ false
        → IsSpelt i s → missing i.pieces i.greatest i.pieces.write r s ≡ Some m → i.valid m ≡ true
    missing-valid w (step.Call s) h u is = need-valid (call_need s) u is
    missing-valid w (step.Compare literal) h u is =
        let l : List ℕ = i.pieces.literal literal in
        let b : List ℕ = written i.pieces.write r in
        let front = ((incomplete-says l b).0 (incomplete-from (comparison l b) h)).0 in
        subst (λ x. i.valid x ≡ true) (same_Some (drop (length b) l) m is) (spelling.literal_valid l b u (spelling.rest_valid J at.index w) front)
    missing-valid w (step.Find needles) h u is =
        let ls : List (List ℕ) = needle_list i.pieces.literal needles in
        let b : List ℕ = written i.pieces.write r in
        subst (λ x. i.valid x ≡ true) (same_Some (needle_missing ls b) m is) (spelling.needle_valid ls b (some-needles i.pieces.literal needles) u (spelling.rest_valid J at.index w))

-- ---- the step that no input changes

-- a list whose tokens are not in the set has no first token of it
none-held : (holds : ℕ → Bool) (k : ℕ) (m : Source ℕ) → AllByRecursion (λ x. holds x.0 ≡ false) m
    → first_held holds (offsets_from k m) ≡ None
none-held holds k [] h = refl
none-held holds k (x ∷ m) h = let e : holds x.0 ≡ false = h.0 in rw e (none-held holds (k + x.1) m h.1)

-- appending such a list does not give one either
none-reached : (holds : ℕ → Bool) (k : ℕ) (r m : Source ℕ)
    → is_some (first_held holds (offsets_from k r)) ≡ false
    → AllByRecursion (λ x. holds x.0 ≡ false) m → first_held holds (offsets_from k (r ++ m)) ≡ None
none-reached holds k [] m h g = none-held holds k m g
none-reached holds k (x ∷ r) m h g =
    elim (cases_Bool (holds x.0)) [
      | inl e ↦ absurd (false≢true (sym (rw e at h)))
      | inr e ↦ rw e (none-reached holds (k + x.1) r m (rw e at h) g)
    ]

-- a `First` without a hit keeps its answer when tokens follow that are not in the set
pub first-never : (holds : ℕ → Bool) (r m : Source ℕ) → is_some (first_offset holds r) ≡ false
    → AllByRecursion (λ x. holds x.0 ≡ false) m → first_offset holds (r ++ m) ≡ first_offset holds r
first-never holds r m h g = none-reached holds 0 r m h g ∙ sym (none-from_is_some (first_offset holds r) h)
