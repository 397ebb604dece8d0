-- What is settled stays settled under more input, and resuming after it gives the answer of the
-- whole.
use Rattle.std.proofs.Common.{◌≡◌, ℕ, zero, suc, ◌+◌, ◌-◌, ◌≤◌, ◌<◌, ◌==◌, Bool, true, false, cond, leb, List, [], ◌∷◌, ◌++◌, length, take, drop, Option, None, Some, Ok, Err, refl, sym, ap, ◌∙◌, subst, arith, inl, inr, take-append-drop, length-drop}
use Rattle.std.specs.Prelude.{option_map, unwrap_or, ◌&&◌}
use Rattle.std.specs.List.{list_any}
use Rattle.std.specs.declared.ops.Range.{Range}
use Rattle.std.proofs.lemmas.Bool.{cases_Bool, false≢true, leb-true, and_parts}
use Rattle.std.proofs.lemmas.Bool.Decides.{nat_tests}
use Rattle.std.proofs.lemmas.List.{take-append-le, drop-append-le, length-append, append_assoc, append-nil}
use Rattle.std.proofs.lemmas.Option.{none-some}
use Rattle.winnow_stream.specs.Source.{Source, width, HasPositiveWidths, first_held, first_offset, offsets_from}
use Rattle.winnow_stream.specs.Front.{is_offset, count_to, front, back}
use Rattle.winnow_stream.specs.Shortage.{shortage, offset_at}
use Rattle.winnow_stream.specs.Span.{span}
use Rattle.winnow_script_run.specs.declared.need.Need.{Need}
use Rattle.winnow_script_run.specs.declared.need.Need.TheVariants as need
use Rattle.winnow_stream.specs.Longer.{count_to-le, front_count-longer, is_offset-longer, front-longer}
use Rattle.winnow_stream.proofs.lemmas.FrontLemmas.{width-front, width-back, is_offset-whole, front-whole, HasPositiveWidths-drop}
use Rattle.winnow_stream.proofs.lemmas.OffsetLemmas.{is_offset-offset_at, is_offset-first_offset}
use Rattle.winnow_match.specs.declared.compare.CompareResult.{CompareResult}
use Rattle.winnow_match.specs.declared.compare.CompareResult.TheVariants as compared
use Rattle.winnow_match.specs.Comparison.{is_prefix, comparison}
use Rattle.winnow_match.specs.Search.{is_empty, needle_at, hit_or, first_hit, hit}
use Rattle.winnow_match.proofs.lemmas.ByteFrontLemmas.{is_prefix-more}
use Rattle.winnow_match.proofs.lemmas.HitLemmas.{first_hit-nowhere}
use Rattle.winnow_stream.specs.declared.needed.Needed.{Needed}
use Rattle.winnow_script_attempt.specs.Settled.{NoneInSet, NoneOccurs, AreSame, AreCounted, IsNeedSettled, shifted, longer, further}

-- ---- `First`

-- offsets that are counted from a later start give a first offset that is later by as much
first_held-shift : {T : Type 0} (holds : T → Bool) (a n : ℕ) (r : Source T)
    → first_held holds (offsets_from (a + n) r)
    ≡ option_map (λ o. a + o) (first_held holds (offsets_from n r))
first_held-shift holds a n [] = refl
first_held-shift holds a n (x ∷ r) =
    elim (cases_Bool (holds x.0)) [
      | inl e ↦ rw e refl
      | inr e ↦ let s : a + n + x.1 ≡ a + (n + x.1) = omega arith in rw (e, s) (first_held-shift holds a (n + x.1) r)
    ]

-- if a list has no token of the set, the first one is in what follows
first_held-passed : {T : Type 0} (holds : T → Bool) (n : ℕ) (r s : Source T)
    → first_held holds (offsets_from n r) ≡ None
    → first_held holds (offsets_from n (r ++ s)) ≡ first_held holds (offsets_from (n + width r) s)
first_held-passed holds n [] s h = ap (λ k. first_held holds (offsets_from k s)) (omega arith)
first_held-passed holds n (x ∷ r) s h =
    elim (cases_Bool (holds x.0)) [
      | inl e ↦ absurd (none-some n (sym (rw e at h)))
      | inr e ↦
          let a : n + x.1 + width r ≡ n + (x.1 + width r) = omega arith in
          rw e (first_held-passed holds (n + x.1) r s (rw e at h) ∙ ap (λ k. first_held holds (offsets_from k s)) a)
    ]

-- a settled offset of `First` stays settled with more input appended
pub NoneInSet-more : {T : Type 0} (holds : T → Bool) (r m : Source T) (n : ℕ) → NoneInSet holds r n
    → NoneInSet holds (r ++ m) n
NoneInSet-more holds r m n h = record { offset = is_offset-longer r m n h.offset; none = ap (first_offset holds) (front-longer r m n h.offset) ∙ h.none }

-- the first token of the set is the first one after what is settled
pub NoneInSet-on : {T : Type 0} (holds : T → Bool) (r : Source T) (n : ℕ) → NoneInSet holds r n
    → first_offset holds r ≡ option_map (λ o. n + o) (first_offset holds (back r n))
NoneInSet-on holds r n h =
    let split : front r n ++ back r n ≡ r = take-append-drop (count_to r n) r in
    let w = width-front r n h.offset in
    let e = first_held-passed holds 0 (front r n) (back r n) h.none in
    let z : 0 + width (front r n) ≡ n + 0 = omega arith in
    ap (first_offset holds) (sym split) ∙ e ∙ ap (λ k. first_held holds (offsets_from k (back r n))) z ∙ first_held-shift holds n 0 (back r n)

-- if no token is in the set, all that remains is settled
pub NoneInSet-whole : {T : Type 0} (holds : T → Bool) (r : Source T) → HasPositiveWidths r
    → first_offset holds r ≡ None → NoneInSet holds r (width r)
NoneInSet-whole holds r w h = record { offset = is_offset-whole r w; none = ap (first_offset holds) (front-whole r w) ∙ h }

-- `First` has settled the offset 0 from the beginning
pub NoneInSet-none : {T : Type 0} (holds : T → Bool) (r : Source T) → NoneInSet holds r 0
NoneInSet-none holds [] = record { offset = refl; none = refl }
NoneInSet-none holds (x ∷ r) = record { offset = refl; none = refl }

-- ---- `Find`

-- a hit at a later place, or a later hit, is later by as much
hit_or-shift : (n at : ℕ) (o : Option ℕ) (later : Option (Range ℕ))
    → hit_or (n + at) o (shifted n later) ≡ shifted n (hit_or at o later)
hit_or-shift n at None later = refl
hit_or-shift n at (Some k) later =
    let P : ℕ → Option (Range ℕ) = λ e. Some (record { start = n + at; end = e }) in
    ap P (omega arith)

-- a search whose places are counted from a later start finds a hit that is later by as much
first_hit-shift : (ls : List (List ℕ)) (n at : ℕ) (bs : List ℕ)
    → first_hit ls (n + at) bs ≡ shifted n (first_hit ls at bs)
first_hit-shift ls n at [] = refl
first_hit-shift ls n at (y ∷ bs) =
    let s : n + at + 1 ≡ n + (at + 1) = omega arith in
    rw (s, first_hit-shift ls n (at + 1) bs) (hit_or-shift n at (needle_at ls (y ∷ bs)) (first_hit ls (at + 1) bs))

-- a search may begin after places where no needle stands
first_hit-passed : (ls : List (List ℕ)) (n at : ℕ) (bs : List ℕ) → n ≤ length bs
    → ((i : ℕ) → i < n → needle_at ls (drop i bs) ≡ None)
    → first_hit ls at bs ≡ first_hit ls (n + at) (drop n bs)
first_hit-passed ls zero at bs l h = ap (λ k. first_hit ls k bs) (omega arith)
first_hit-passed ls (suc n) at [] l h = absurd (omega arith)
first_hit-passed ls (suc n) at (y ∷ bs) l h =
    let here : needle_at ls (y ∷ bs) ≡ None = h 0 (omega arith) in
    let ih = first_hit-passed ls n (at + 1) bs (omega arith) (λ i k. h (suc i) (omega arith)) in
    let e : n + (at + 1) ≡ suc n + at = omega arith in
    rw here (ih ∙ ap (λ k. first_hit ls k (drop n bs)) e)

-- an empty needle occurs everywhere
empty-stands : (ls : List (List ℕ)) (bs : List ℕ) → list_any is_empty ls ≡ true
    → needle_at ls bs ≡ None → ⊥
empty-stands [] bs h e = false≢true h
empty-stands ([] ∷ ls) bs h e = none-some 0 (sym e)
empty-stands ((x ∷ l) ∷ ls) bs h e =
    elim (cases_Bool (is_prefix (x ∷ l) bs)) [
      | inl f ↦ none-some (length (x ∷ l)) (sym (rw f at e))
      | inr f ↦ empty-stands ls bs h (rw f at e)
    ]

-- a move by 0 changes nothing
shifted-none : (o : Option (Range ℕ)) → shifted 0 o ≡ o
shifted-none None = refl
shifted-none (Some p) =
    let s : 0 + p.start ≡ p.start = omega arith in
    let e : 0 + p.end ≡ p.end = omega arith in
    let P : ℕ → ℕ → Option (Range ℕ) = λ a b. Some (record { start = a; end = b }) in
    ap (λ a. P a (0 + p.end)) s ∙ ap (P p.start) e

-- a settled place of `Find` stays settled with more input appended
pub NoneOccurs-more : (ls : List (List ℕ)) (bs more : List ℕ) (n : ℕ) → NoneOccurs ls bs n
    → NoneOccurs ls (bs ++ more) n
NoneOccurs-more ls bs more n h = record {
  within = omega (arith, h.within, length-append bs more);
  none = λ m i l. ap (λ xs. needle_at ls (drop i xs)) (append_assoc bs more m) ∙ h.none (more ++ m) i l;
}

-- the hit in the whole is that after what is settled
pub NoneOccurs-on : (ls : List (List ℕ)) (bs : List ℕ) (n : ℕ) → NoneOccurs ls bs n
    → hit ls bs ≡ shifted n (hit ls (drop n bs))
NoneOccurs-on ls bs zero h = sym (shifted-none (hit ls bs))
NoneOccurs-on ls bs (suc n) h =
    let none : (i : ℕ) → i < suc n → needle_at ls (drop i bs) ≡ None = λ i l. ap (λ xs. needle_at ls (drop i xs)) (sym (append-nil bs)) ∙ h.none [] i l in
    elim (cases_Bool (list_any is_empty ls)) [
      | inl e ↦ absurd (empty-stands ls bs e (none 0 (omega arith)))
      | inr e ↦
          rw e
          (first_hit-passed ls (suc n) 0 bs h.within none ∙ first_hit-shift ls (suc n) 0 (drop (suc n) bs))
    ]

-- whether no needle is longer than w
abbrev pub have_most : ℕ → List (List ℕ) → Bool
have_most w [] = true
have_most w (l ∷ ls) = leb (length l) w && have_most w ls

-- the needle at a place is decided by as many bytes as the longest needle has
needle_at-more : (w : ℕ) (ls : List (List ℕ)) (bs m : List ℕ) → have_most w ls ≡ true
    → w ≤ length bs → needle_at ls (bs ++ m) ≡ needle_at ls bs
needle_at-more w [] bs m h l = refl
needle_at-more w (x ∷ ls) bs m h l =
    let parts = and_parts (leb (length x) w) (have_most w ls) h in
    rw (is_prefix-more x bs m (omega (arith, leb-true (length x) w parts.0)), needle_at-more w ls bs m parts.1 l)

-- a search that found nothing has settled all but the last places, where a needle may begin
pub NoneOccurs-searched : (w : ℕ) (ls : List (List ℕ)) (bs : List ℕ) → have_most (w + 1) ls ≡ true
    → hit ls bs ≡ None → NoneOccurs ls bs (length bs - w)
NoneOccurs-searched w ls bs h none =
    let some : list_any is_empty ls ≡ false = elim (cases_Bool (list_any is_empty ls)) [ inl e ↦ absurd (none-some (span 0 0) (sym (rw e at none))) | inr e ↦ e ] in
    let nowhere : first_hit ls 0 bs ≡ None = rw some at none in
    record {
      within = omega arith;
      none = λ m i l.
          let d : drop i (bs ++ m) ≡ drop i bs ++ m = drop-append-le i bs m (omega arith) in
          ap (needle_at ls) d ∙ needle_at-more (w + 1) ls (drop i bs) m h (omega (arith, length-drop i bs)) ∙ first_hit-nowhere ls bs 0 nowhere i (omega arith);
    }

-- `Find` has settled the place 0 from the beginning
pub NoneOccurs-none : (ls : List (List ℕ)) (bs : List ℕ) → NoneOccurs ls bs 0
NoneOccurs-none ls bs = record { within = omega arith; none = λ m i l. absurd (omega arith) }

-- ---- `Compare`

-- lengths that are the same add up
longer-suc : (n : ℕ) (c : CompareResult) → longer 1 (longer n c) ≡ longer (suc n) c
longer-suc n (compared.Ok k) = ap compared.Ok (omega arith)
longer-suc n compared.Incomplete = refl
longer-suc n compared.Error = refl

longer-none : (c : CompareResult) → longer 0 c ≡ c
longer-none (compared.Ok k) = ap compared.Ok (omega arith)
longer-none compared.Incomplete = refl
longer-none compared.Error = refl

longer-cond : (n : ℕ) (a b : Bool)
    → longer 1 (cond a (compared.Ok n) (cond b compared.Incomplete compared.Error))
    ≡ cond a (compared.Ok (suc n)) (cond b compared.Incomplete compared.Error)
longer-cond n true b = ap compared.Ok (omega arith)
longer-cond n false true = refl
longer-cond n false false = refl

-- one more equal byte makes a comparison longer by 1
comparison-cons : (x : ℕ) (l b : List ℕ) → comparison (x ∷ l) (x ∷ b) ≡ longer 1 (comparison l b)
comparison-cons x l b =
    let same : (x == x) ≡ true = grind (arith, nat_tests) in
    rw same (sym (longer-cond (length l) (is_prefix l b) (is_prefix b l)))

-- a comparison of the whole is that after what is settled
pub AreSame-on : (n : ℕ) (l b : List ℕ) → AreSame l b n
    → comparison l b ≡ longer n (comparison (drop n l) (drop n b))
AreSame-on zero l b h = sym (longer-none (comparison l b))
AreSame-on (suc n) [] b h = absurd (omega (arith, h.fits))
AreSame-on (suc n) (x ∷ l) [] h = absurd (omega (arith, h.within))
AreSame-on (suc n) (x ∷ l) (y ∷ b) h =
    let first : y ≡ x = cc (h.same) in
    let later : take n b ≡ take n l = cc (h.same) in
    let ih = AreSame-on n l b (record { within = omega (arith, h.within); fits = omega (arith, h.fits); same = later }) in
    rw first (comparison-cons x l b ∙ ap (longer 1) ih ∙ longer-suc n (comparison (drop n l) (drop n b)))

-- a settled length of `Compare` stays settled with more input appended
pub AreSame-more : (l b m : List ℕ) (n : ℕ) → AreSame l b n → AreSame l (b ++ m) n
AreSame-more l b m n h = record { within = omega (arith, h.within, length-append b m); fits = h.fits; same = take-append-le n b m h.within ∙ h.same }

-- ---- `At`

-- an offset in the rest is an offset of the whole; a shortage is the same
further-err : (n : ℕ) (b : Bool) (w v : ℕ) (e : Needed) → n + v ≡ w
    → cond b (Ok w) (Err e) ≡ further n (cond b (Ok v) (Err e))
further-err n true w v e h = ap Ok (sym h)
further-err n false w v e h = refl

-- a settled count of `At` stays settled with more input appended
pub AreCounted-more : {T : Type 0} (asked : ℕ) (r m : Source T) (n count : ℕ)
    → AreCounted asked r n count → AreCounted asked (r ++ m) n count
AreCounted-more asked r m n count h = record { offset = is_offset-longer r m n h.offset; counted = ap (λ o. unwrap_or o 0) (front_count-longer r m n h.offset) ∙ h.counted; fits = h.fits }

-- the front of an empty list has width 0
none-taken : (T : Type 0) (b : ℕ) → 0 ≡ 0 + width {T = T} (take b [])
none-taken T zero = refl
none-taken T (suc b) = refl

-- the width of a front is the sum of the widths of its two parts
pub width-split : {T : Type 0} (a b : ℕ) (r : Source T)
    → width (take (a + b) r) ≡ width (take a r) + width (take b (drop a r))
width-split zero b r = let e : zero + b ≡ b = omega arith in rw e (omega arith)
width-split {T} (suc a) b [] = let e : suc a + b ≡ suc (a + b) = omega arith in rw e (none-taken T b)
width-split (suc a) b (x ∷ r) = let e : suc a + b ≡ suc (a + b) = omega arith in rw e (omega (arith, width-split a b r))

-- the offset after a number of tokens is that after what is counted
pub AreCounted-on : {T : Type 0} (counts_shortage : Bool) (asked : ℕ) (r : Source T) (n count : ℕ)
    → AreCounted asked r n count
    → offset_at counts_shortage r asked
    ≡ further n (offset_at counts_shortage (back r n) (asked - count))
AreCounted-on counts_shortage asked r n count h =
    let same : back r n ≡ drop count r = ap (λ k. drop k r) h.counted in
    let wide : width (take count r) ≡ n = ap (λ k. width (take k r)) (sym h.counted) ∙ width-front r n h.offset in
    let most : count ≤ length r = subst (λ k. k ≤ length r) h.counted (count_to-le r n) in
    let len : length (drop count r) ≡ length r - count = length-drop count r in
    let fit = h.fits in
    let test : leb asked (length r) ≡ leb (asked - count) (length (drop count r)) = grind (arith, nat_tests, len, most, fit) in
    let left : asked - length r ≡ (asked - count) - length (drop count r) = omega arith in
    let sum : count + (asked - count) ≡ asked = omega arith in
    let split : width (take asked r) ≡ n + width (take (asked - count) (drop count r)) =
    ap (λ k. width (take k r)) (sym sum) ∙ width-split count (asked - count) r ∙ ap (λ k. k + width (take (asked - count) (drop count r))) wide
    in
    rw same (rw test (rw left (further-err n (leb (asked - count) (length (drop count r))) (width (take asked r)) (width (take (asked - count) (drop count r))) (shortage counts_shortage ((asked - count) - length (drop count r))) (sym split))))

-- `At` has counted no token at the offset 0 from the beginning
pub AreCounted-none : {T : Type 0} (asked : ℕ) (r : Source T) → AreCounted asked r 0 0
AreCounted-none asked [] = record { offset = refl; counted = refl; fits = omega arith }
AreCounted-none asked (x ∷ r) = record { offset = refl; counted = refl; fits = omega arith }

-- `Compare` has settled the length 0 from the beginning
pub AreSame-none : (literal bytes : List ℕ) → AreSame literal bytes 0
AreSame-none literal bytes = record { within = omega arith; fits = omega arith; same = refl }

-- ---- what was found in the rest fits in the whole

-- an offset that was found after what is settled fits in what remains
pub first-fits : {T : Type 0} (holds : T → Bool) (r : Source T) (n o : ℕ) → HasPositiveWidths r
    → is_offset r n ≡ true → first_offset holds (back r n) ≡ Some o → n + o ≤ width r
first-fits holds r n o w h e =
    let b = back r n in
    omega (arith, width-back r n h, width-back b o (is_offset-first_offset holds b o (HasPositiveWidths-drop (count_to r n) r w) e))

pub offset_at-fits : {T : Type 0} (counts_shortage : Bool) (r : Source T) (n i o : ℕ)
    → HasPositiveWidths r → is_offset r n ≡ true → offset_at counts_shortage (back r n) i ≡ Ok o
    → n + o ≤ width r
offset_at-fits counts_shortage r n i o w h e =
    let b = back r n in
    omega (arith, width-back r n h, width-back b o (is_offset-offset_at counts_shortage b i o (HasPositiveWidths-drop (count_to r n) r w) e))

-- ---- all of them

-- what a need has settled stays settled with more input appended
pub need_settled-more : {T C : Type 0} (holds : C → T → Bool) (s : Need C) (r more : Source T)
    (n tokens : ℕ) → IsNeedSettled holds s r n tokens → IsNeedSettled holds s (r ++ more) n tokens
need_settled-more holds (need.TokenOf c) r more n tokens h = NoneInSet-more (holds c) r more n h
need_settled-more holds (need.Tokens asked) r more n tokens h = AreCounted-more asked r more n tokens h
need_settled-more holds need.Nothing r more n tokens h = tt
need_settled-more holds need.Token r more n tokens h = tt
need_settled-more holds (need.Width i) r more n tokens h = tt
need_settled-more holds need.End r more n tokens h = tt
