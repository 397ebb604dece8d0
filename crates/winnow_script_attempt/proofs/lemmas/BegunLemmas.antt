-- What a search has settled: the place at which a needle has begun, and how much of it is there.
use Rattle.std.proofs.Common.{◌≡◌, ℕ, zero, suc, ◌+◌, ◌==◌, get_or, ◌-◌, ◌≤◌, ◌<◌, max, false, List, [], ◌∷◌, ◌++◌, length, take, drop, Option, Some, None, refl, sym, ap, ◌∙◌, subst, arith, inl, inr, length-drop, take_all}
use Rattle.std.specs.List.{list_any}
use Rattle.std.specs.declared.ops.Range.{Range}
use Rattle.std.proofs.lemmas.Bool.{cases_Bool, cases_lt, false≢true, true≢false}
use Rattle.std.proofs.lemmas.Bool.Decides.{nat_tests}
use Rattle.std.proofs.lemmas.List.{take_at, drop-append-le, append_assoc, append-nil, get_or_past, drop-drop, drop_more}
use Rattle.std.proofs.lemmas.Option.{none-some}
use Rattle.winnow_stream.specs.Source.{Source}
use Rattle.winnow_stream.specs.Span.{span}
use Rattle.winnow_script_run.specs.Needs.{call_need}
use Rattle.winnow_script_run.specs.declared.search_steps.SearchStep.{SearchStep}
use Rattle.winnow_script_run.specs.declared.search_steps.SearchStep.TheVariants as step
use Rattle.winnow_script_run.specs.Definite.{PieceReading}
use Rattle.winnow_match.specs.Bytes.{written}
use Rattle.winnow_match.specs.Staying.{written-append}
use Rattle.winnow_match.specs.declared.compare.CompareResult.TheVariants as compared
use Rattle.winnow_match.specs.declared.needles.Stretch.{Stretch}
use Rattle.winnow_match.specs.Comparison.{is_prefix, IsPrefixOf, comparison}
use Rattle.winnow_match.specs.Search.{is_empty, needle_at, needle_of, needle_list, hit}
use Rattle.winnow_match.specs.Stretch.{stretches, mover, mover_or, stretch_of, hit_is_definite, CanMove}
use Rattle.winnow_match.proofs.lemmas.ByteFrontLemmas.{is_prefix-IsPrefixOf, is_prefix-long, no_front}
use Rattle.winnow_match.proofs.lemmas.ComparisonLemmas.{incomplete-says}
use Rattle.winnow_match.proofs.lemmas.HitLemmas.{no-needle, needle_at-nowhere, first_hit-nowhere}
use Rattle.winnow_match.proofs.lemmas.StretchLemmas.{stretches-parts, stretches-from, mover-some, mover-none, first_mover-some}
use Rattle.winnow_match.proofs.lemmas.MoveLemmas.{stands-before, first, inside, absent-before, none-contained, hit-empty, stretch-empty, stretch-first, definite-parts}
use Rattle.winnow_match.proofs.lemmas.RuleLemmas.{stretch-none-says}
use Rattle.winnow_script_attempt.specs.declared.calls.Settled.{Settled}
use Rattle.winnow_script_attempt.specs.Fitting.{first_bytes}
use Rattle.winnow_script_attempt.specs.Settled.{NoneOccurs, AreSame, IsSearchSettled, IsSettled, nothing_settled}
use Rattle.winnow_script_attempt.proofs.lemmas.SettledLemmas.{AreSame-none, AreSame-more, NoneOccurs-none, NoneOccurs-more, need_settled-more}
use Rattle.winnow_script_attempt.proofs.lemmas.AttemptLemmas.{searched-hit}

-- a needle that neither stands at a place nor stretches there never comes to stand there
never-stands : (n b m : List ℕ) (q : ℕ) → q ≤ length b → is_prefix n (drop q b) ≡ false
    → stretches n (drop q b) ≡ false → is_prefix n (drop q (b ++ m)) ≡ false
never-stands n b m q l a s =
    no_front n (drop q (b ++ m)) (λ o. elim (stands-before n b m q l o) [
      | inl t ↦ false≢true (sym a ∙ is_prefix-IsPrefixOf n (drop q b) t)
      | inr t ↦ false≢true (sym s ∙ stretches-from n (drop q b) t)
    ])

-- bytes that a needle begins with are those of the needle
same-all : (n xs : List ℕ) → IsPrefixOf xs n → length xs < length n → (k : ℕ) → k ≡ length xs
    → AreSame n xs k
same-all n xs p l k e = record {
  within = omega (arith, e);
  fits = omega (arith, e, l);
  same = take_all k xs (omega (arith, e)) ∙ sym (ap (take k) p.1 ∙ take_at xs p.0 k (sym e));
}

-- the bytes end inside the first needle
pub listed-begun : (n xs : List ℕ) (later : Option ℕ) → comparison n xs ≡ compared.Incomplete
    → Some 0 ≡ mover_or (is_prefix n xs) (stretches n xs) later
listed-begun n xs later e =
    let f = (incomplete-says n xs).0 e in
    rw (is_prefix-long n xs f.1, stretches-from n xs f) refl

module _ (ls : List (List ℕ)) (bs : List ℕ) where
  -- a search that found nothing has no empty needle
  pub none-empty_found : hit ls bs ≡ None → list_any is_empty ls ≡ false
  none-empty_found h = elim (cases_Bool (list_any is_empty ls)) [ inl e ↦ absurd (none-some (span 0 0) (sym h ∙ hit-empty ls bs e)) | inr e ↦ e ]

  -- nor one that a needle could move
  stretch-some_empty : (s : Stretch) → stretch_of ls bs ≡ Some s → list_any is_empty ls ≡ false
  stretch-some_empty s h = elim (cases_Bool (list_any is_empty ls)) [ inl e ↦ absurd (none-some s (sym (stretch-empty ls bs e) ∙ h)) | inr e ↦ e ]

  -- a needle has begun at p, and no needle stands before
  pub begun-at : (settled : Settled) → list_any is_empty ls ≡ false
      → NoneOccurs ls bs settled.width → mover ls (drop settled.width bs) ≡ Some settled.needle
      → settled.compared ≡ length bs - settled.width → IsSearchSettled ls bs settled
  begun-at settled some none here k =
      let p = settled.width in
      let f = mover-some ls (drop p bs) settled.needle here in
      let t = stretches-parts (needle_of ls settled.needle) (drop p bs) f.stretched in
      record {
        none = none;
        same = same-all (needle_of ls settled.needle) (drop p bs) t.0 t.1 settled.compared (k ∙ sym (length-drop p bs));
        passed = λ m i l. never-stands (needle_of ls i) bs m p none.within (f.absent i l) (f.before i l);
        some = λ _. some;
      }

  -- a hit that a needle could move
  pub begun-hit : (r : Range ℕ) (s : Stretch) (settled : Settled) → Some r ≡ hit ls bs
      → Some s ≡ stretch_of ls bs → settled.width ≡ s.place → settled.needle ≡ s.needle
      → settled.compared ≡ length bs - s.place → IsSearchSettled ls bs settled
  begun-hit r s settled h e place needle k =
      let some = stretch-some_empty s (sym e) in
      let t = first_mover-some ls bs 0 s (sym (stretch-first ls bs some) ∙ sym e) in
      let at : t.place ≡ settled.width = omega (arith, t.is, place) in
      let here : mover ls (drop settled.width bs) ≡ Some settled.needle = ap (λ q. mover ls (drop q bs)) (sym at) ∙ t.here ∙ ap Some (sym needle) in
      begun-at settled some (subst (NoneOccurs ls bs) (sym place) (searched-hit ls bs r s h e)) here (k ∙ ap (λ q. length bs - q) (sym place))

  -- no needle has begun: the bytes end here
  pub begun-nowhere : (settled : Settled) → NoneOccurs ls bs settled.width → settled.needle ≡ 0
      → settled.compared ≡ 0 → IsSearchSettled ls bs settled
  begun-nowhere settled none needle k = record {
    none = none;
    same = subst (AreSame (needle_of ls settled.needle) (drop settled.width bs)) (sym k) (AreSame-none (needle_of ls settled.needle) (drop settled.width bs));
    passed = λ m i l. absurd (omega (arith, l, needle));
    some = λ l. absurd (omega (arith, l, k));
  }

  -- a place at which no needle stands or stretches is settled
  pub passed-place : (p : ℕ) → hit ls bs ≡ None → NoneOccurs ls bs p → p < length bs
      → mover ls (drop p bs) ≡ None → NoneOccurs ls bs (p + 1)
  passed-place p h none l here =
      let nowhere : needle_at ls (drop p bs) ≡ None = first_hit-nowhere ls bs 0 (rw (none-empty_found h) at h) p l in
      record {
        within = omega (arith, l);
        none = λ m i k. elim (cases_lt i p) [
          | inl b ↦ none.none m i b
          | inr b ↦
              let e : i ≡ p = omega (arith, k, b) in
              ap (λ j. needle_at ls (drop j (bs ++ m))) e ∙ needle_at-nowhere ls (drop p (bs ++ m)) (λ j lj. never-stands (needle_of ls j) bs m p (omega (arith, l)) (no-needle ls (drop p bs) nowhere j lj)
              (mover-none ls (drop p bs) here j lj (λ x lx. no-needle ls (drop p bs) nowhere x (omega (arith, lx, lj)))))
        ];
      }

  -- of two settled places the later one is settled
  pub later-place : (p q n : ℕ) → n ≡ max p q → NoneOccurs ls bs p → NoneOccurs ls bs q
      → NoneOccurs ls bs n
  later-place p q n e h g =
      elim (cases_lt p q) [
        | inl l ↦ subst (NoneOccurs ls bs) (omega (arith, e, l)) g
        | inr l ↦ subst (NoneOccurs ls bs) (omega (arith, e, l)) h
      ]

  module _ (settled : Settled) (h : IsSearchSettled ls bs settled) (begun : 0 < settled.compared) (e : comparison (needle_of ls settled.needle) (drop settled.width bs) ≡ compared.Incomplete) where
    -- the bytes still end inside the needle
    ends-inside : IsPrefixOf (drop settled.width bs) (needle_of ls settled.needle) × (length (drop
        settled.width bs) < length (needle_of ls settled.needle))
    ends-inside = (incomplete-says (needle_of ls settled.needle) (drop settled.width bs)).0 e

    -- without more input
    plain : bs ++ [] ≡ bs
    plain = append-nil bs

    -- a hit is no earlier than the needle
    begins-first : (r : Range ℕ) → hit ls bs ≡ Some r → settled.width ≤ r.start
    begins-first r f =
        let s = first ls bs (h.some begun) r f in
        elim (cases_lt r.start settled.width) [
          | inl l ↦
              let none : needle_at ls (drop r.start bs) ≡ None = ap (λ b. needle_at ls (drop r.start b)) (sym plain) ∙ h.none.none [] r.start l in
              absurd (false≢true (sym (no-needle ls (drop r.start bs) none s.index s.listed) ∙ is_prefix-IsPrefixOf (needle_of ls s.index) (drop r.start bs) s.stands))
          | inr l ↦ l
        ]

    -- so the needle can move it
    can-move : (r : Range ℕ) → hit ls bs ≡ Some r → CanMove ls bs r settled.needle settled.width
    can-move r f = record {
      listed = elim (cases_lt settled.needle (length ls)) [
        | inl l ↦ l
        | inr l ↦ absurd (omega (arith, ends-inside.1, ap length (get_or_past ls settled.needle [] l)))
      ];
      stretches = ends-inside;
      first = elim (cases_lt settled.width r.start) [
        | inl l ↦ inl l
        | inr l ↦
            inr (omega (arith, l, begins-first r f), λ j k o. false≢true (sym (h.passed [] j k) ∙ ap (λ b. is_prefix (needle_of ls j) (drop settled.width b)) plain ∙ is_prefix-IsPrefixOf (needle_of ls j) (drop settled.width bs) o))
      ];
    }

    -- and the search waits
    pub begun-waits : hit_is_definite ls bs ≡ false
    begun-waits =
        elim (cases_Bool (hit_is_definite ls bs)) [
          | inl d ↦
              let parts = definite-parts ls bs d in
              absurd ((stretch-none-says ls bs (none-contained ls bs (h.some begun)) parts.0.0 parts.0.1).0 parts.1 settled.needle settled.width (can-move parts.0.0 parts.0.1))
          | inr d ↦ d
        ]

    -- with more of the needle compared
    pub begun-more : (more : Settled) → more.width ≡ settled.width → more.needle ≡ settled.needle
        → more.compared ≡ length (drop settled.width bs) → IsSearchSettled ls bs more
    begun-more more width needle k = record {
      none = rw width h.none;
      same = rw (width, needle) (same-all (needle_of ls settled.needle) (drop settled.width bs) ends-inside.0 ends-inside.1 more.compared k);
      passed = rw (width, needle) h.passed;
      some = λ _. h.some begun;
    }

-- ---- the first bytes of the needles

-- where no needle's first byte stands, no needle stands or stretches
mover-differs : (ls : List (List ℕ)) (y : ℕ) (xs : List ℕ) → list_any is_empty ls ≡ false
    → needle_at (first_bytes ls) (y ∷ xs) ≡ None → mover ls (y ∷ xs) ≡ None
mover-differs [] y xs some h = refl
mover-differs ([] ∷ ls) y xs some h = absurd (true≢false some)
mover-differs ((x ∷ n) ∷ ls) y xs some h =
    elim (cases_Bool (x == y)) [
      | inl e ↦ absurd (none-some 1 (sym (rw e at h)))
      | inr e ↦
          let flipped : (y == x) ≡ false = grind (arith, nat_tests, e) in
          let later = mover-differs ls y xs some (rw e at h) in
          rw (e, flipped, later) refl
    ]

-- no first byte is empty
some-first_bytes : (ls : List (List ℕ)) → list_any is_empty (first_bytes ls) ≡ false
some-first_bytes [] = refl
some-first_bytes (n ∷ ls) = some-first_bytes ls

module _ (ls : List (List ℕ)) (bs : List ℕ) (none : hit ls bs ≡ None) where
  -- no needle begins at a place without a first byte
  here : (p k : ℕ) → p + k < length bs
      → needle_at (first_bytes ls) (drop k (drop p bs)) ≡ None → mover ls (drop (p + k) bs) ≡ None
  here p k l e =
      let i = p + k in
      let d : drop i bs ≡ get_or bs i 0 ∷ drop (i + 1) bs = drop_more bs i 0 l in
      ap (mover ls) d ∙ mover-differs ls (get_or bs i 0) (drop (i + 1) bs) (none-empty_found ls bs none) (ap (needle_at (first_bytes ls)) (sym d ∙ sym (drop-drop k p bs)) ∙ e)

  -- places at which no needle begins are settled
  passed-places : (p k : ℕ) → NoneOccurs ls bs p → p + k ≤ length bs
      → ((j : ℕ) → j < k → needle_at (first_bytes ls) (drop j (drop p bs)) ≡ None)
      → NoneOccurs ls bs (p + k)
  passed-places p zero h l each = subst (NoneOccurs ls bs) (omega arith) h
  passed-places p (suc k) h l each =
      let before = passed-places p k h (omega (arith, l)) (λ j m. each j (omega (arith, m))) in
      let e : p + k + 1 ≡ p + suc k = omega arith in
      subst (NoneOccurs ls bs) e (passed-place ls bs (p + k) none before (omega (arith, l)) (here p k (omega (arith, l)) (each k (omega arith))))

  -- up to the first byte of a needle, no needle stands or stretches
  pub passed-to : (p : ℕ) (r : Range ℕ) → NoneOccurs ls bs p
      → hit (first_bytes ls) (drop p bs) ≡ Some r
      → NoneOccurs ls bs (p + r.start) × (p + r.start < length bs)
  passed-to p r h e =
      let some = some-first_bytes ls in
      let l = inside (first_bytes ls) (drop p bs) some r e in
      let within : p + r.start < length bs = omega (arith, l, length-drop p bs) in
      (passed-places p r.start h (omega (arith, within)) (absent-before (first_bytes ls) (drop p bs) some r e), within)

  -- without one, none begins at all
  pub passed-all : (p : ℕ) → NoneOccurs ls bs p → hit (first_bytes ls) (drop p bs) ≡ None
      → NoneOccurs ls bs (length bs)
  passed-all p h e =
      let nowhere = first_hit-nowhere (first_bytes ls) (drop p bs) 0 (rw (some-first_bytes ls) at e) in
      let n : p + (length bs - p) ≡ length bs = omega (arith, h.within) in
      subst (NoneOccurs ls bs) n (passed-places p (length bs - p) h (omega (arith, n)) (λ j l. nowhere j (omega (arith, l, length-drop p bs))))

-- what a search has settled stays settled with more input appended
pub IsSearchSettled-more : (ls : List (List ℕ)) (bs more : List ℕ) (settled : Settled)
    → IsSearchSettled ls bs settled → IsSearchSettled ls (bs ++ more) settled
IsSearchSettled-more ls bs more settled h = record {
  none = NoneOccurs-more ls bs more settled.width h.none;
  same = rw (drop-append-le settled.width bs more h.none.within) (AreSame-more (needle_of ls settled.needle) (drop settled.width bs) more settled.compared h.same);
  passed = λ m i l. ap (λ b. is_prefix (needle_of ls i) (drop settled.width b)) (append_assoc bs more m) ∙ h.passed (more ++ m) i l;
  some = h.some;
}

-- a search has settled nothing at first
pub IsSearchSettled-none : (ls : List (List ℕ)) (bs : List ℕ)
    → IsSearchSettled ls bs nothing_settled
IsSearchSettled-none ls bs = begun-nowhere ls bs nothing_settled (NoneOccurs-none ls bs) refl refl

-- what a step has settled stays settled with more input appended
pub settled-more : {T C L : Type 0} (k : PieceReading T C L) (s : SearchStep C L)
    (r more : Source T) (settled : Settled) → IsSettled k s r settled
    → IsSettled k s (r ++ more) settled
settled-more k (step.Call s) r more settled h = need_settled-more k.holds (call_need s) r more settled.width settled.tokens h
settled-more k (step.Compare l) r more settled h = rw (written-append k.write r more) (AreSame-more (k.literal l) (written k.write r) (written k.write more) settled.width h)
settled-more k (step.Find ns) r more settled h = rw (written-append k.write r more) (IsSearchSettled-more (needle_list k.literal ns) (written k.write r) (written k.write more) settled h)
