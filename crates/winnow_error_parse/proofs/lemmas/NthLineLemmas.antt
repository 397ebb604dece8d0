-- The lines of bytes: whether there are several, and which line a place is on.
use Rattle.std.proofs.Common.{◌≡◌, ◌==◌, ◌<◌, ◌≤◌, ◌+◌, ◌-◌, ℕ, zero, suc, Bool, List, [], ◌∷◌, Option, Some, true, false, not, cond, length, get_or, take, drop, refl, ap, sym, ◌∙◌, arith}
use Rattle.std.specs.Prelude.{count_by, is_some, slice_get, unwrap_or}
use Rattle.std.specs.List.{slice_split, onto_first, before_first, prefix_len}
use Rattle.std.proofs.lemmas.List.Sums.{prefix_len_is, count_by_more_no, count_by_more_yes, sum_by-cons}
use Rattle.std.proofs.lemmas.List.{take_all, get_or-take}
use Rattle.std.proofs.lemmas.Bool.Decides.{nat_tests}
use Rattle.memchr.specs.Find.{Passes, Nowhere, NoneBefore, is_byte, places, first_of, IsFirstByte}
use Rattle.memchr.proofs.lemmas.CallerLemmas.{length-places}
use Rattle.memchr.proofs.lemmas.ValueLemmas.{IsFirstByte-value}
use Rattle.winnow_error_parse.specs.Position.{is_newline}
use Rattle.winnow_error_parse.specs.ParseErrorText.{nth_line}

-- a flag that is not true is false, in the two forms that are used below
not_true : (b : Bool) → (b ≡ true → ⊥) → not b ≡ true
not_true true h = absurd (h refl)
not_true false h = refl

not_false : (b : Bool) → (b ≡ true → ⊥) → b ≡ false
not_false true h = absurd (h refl)
not_false false h = refl

-- what stands before the first newline
pub before_first-at : (hay : List ℕ) (k : ℕ)
    → NoneBefore (Passes (is_byte 10) hay) 0 (length hay) k → Passes (is_byte 10) hay k
    → take k hay ≡ before_first is_newline hay
before_first-at hay k first here =
    let at = prefix_len_is (λ b. not (is_newline b)) hay k 0 (omega (arith, first.high)) (λ j p. not_true (is_newline (get_or hay j 0)) (first.before j (omega arith) p)) (λ p. ap not here) in
    ap (λ n. take n hay) (sym at)

-- what stands before the first newline if there is none: all bytes
pub before_first-all : (hay : List ℕ) → Nowhere (Passes (is_byte 10) hay) 0 (length hay)
    → hay ≡ before_first is_newline hay
before_first-all hay none =
    let at = prefix_len_is (λ b. not (is_newline b)) hay (length hay) 0 (omega arith) (λ j p. not_true (is_newline (get_or hay j 0)) (none j (omega arith) p)) (λ p. absurd (omega arith)) in
    sym (ap (λ n. take n hay) at ∙ take_all (length hay) hay (omega arith))

-- a list has a first element if it is not empty
is_some-first_of : (ps : List ℕ) → is_some (first_of ps) ≡ not (length ps == 0)
unfolding first_of
is_some-first_of [] = refl
is_some-first_of (x ∷ xs) = grind (arith, nat_tests)

-- a first newline is found if the bytes have one
pub is_some-newline : (hay : List ℕ) (r : Option ℕ) → IsFirstByte (is_byte 10) hay r
    → is_some r ≡ not (count_by is_newline hay == 0)
is_some-newline hay r first =
    ap is_some (IsFirstByte-value (is_byte 10) hay r first) ∙ is_some-first_of (places (is_byte 10) hay) ∙ ap (λ n. not (n == 0)) (length-places (is_byte 10) hay)

-- a byte that is put on the first part changes that part alone
onto_first-first : (x : ℕ) (parts : List (List ℕ)) (y : List ℕ) → slice_get parts 0 ≡ Some y
    → slice_get (onto_first x parts) 0 ≡ Some (x ∷ y)
onto_first-first x [] y h = cc
onto_first-first x (part ∷ parts) y h = cc

onto_first-later : (x : ℕ) (parts : List (List ℕ)) (k : ℕ)
    → slice_get (onto_first x parts) (suc k) ≡ slice_get parts (suc k)
onto_first-later x [] k = refl
onto_first-later x (part ∷ parts) k = refl

-- one more byte before the others: the first part begins with it, or is empty before a newline
first_step : (b : Bool) (x n : ℕ) (xs : List ℕ) (parts : List (List ℕ))
    → slice_get parts 0 ≡ Some (take n xs)
    → slice_get (cond b ([] ∷ parts) (onto_first x parts)) 0
    ≡ Some (take (cond (not b) (1 + n) 0) (x ∷ xs))
first_step true x n xs parts h = refl
first_step false x n xs parts h =
    let one_more : suc n ≡ 1 + n = omega arith in
    onto_first-first x parts (take n xs) h ∙ ap (λ m. Some (take m (x ∷ xs))) one_more

-- the first part is what stands before the first newline
first_part : (xs : List ℕ)
    → slice_get (slice_split is_newline xs) 0 ≡ Some (before_first is_newline xs)
first_part [] = refl
first_part (x ∷ xs) = first_step (is_newline x) x (prefix_len (λ b. not (is_newline b)) xs) xs (slice_split is_newline xs) (first_part xs)

-- one more byte before the others moves the number of a later part by one if it is a newline
part_step : (b : Bool) (x c : ℕ) (parts : List (List ℕ)) (r : List ℕ) → slice_get parts c ≡ Some r
    → (b ≡ false → (k : ℕ) × (c ≡ suc k))
    → slice_get (cond b ([] ∷ parts) (onto_first x parts)) (cond b 1 0 + c) ≡ Some r
part_step true x c parts r h later =
    let one_more : 1 + c ≡ suc c = omega arith in
    ap (slice_get ([] ∷ parts)) one_more ∙ h
part_step false x c parts r h later =
    let k = later refl in
    let same : 0 + c ≡ c = omega arith in
    ap (slice_get (onto_first x parts)) (same ∙ k.1) ∙ onto_first-later x parts k.0 ∙ ap (slice_get parts) (sym k.1) ∙ h

-- if a part begins after a newline, and the first byte is none, a newline stands before the part
some_before : (xs : List ℕ) (x s : ℕ) → s ≤ length xs
    → ((t : ℕ) → suc s ≡ suc t → is_newline (get_or (x ∷ xs) t 0) ≡ true) → is_newline x ≡ false
    → (k : ℕ) × (count_by is_newline (take s xs) ≡ suc k)
some_before xs x zero within newline not_here = absurd (cc (newline 0 refl, not_here))
some_before xs x (suc t) within newline not_here =
    let next : t + 1 ≡ suc t = omega arith in
    let counted = count_by_more_yes is_newline xs t 0 (omega arith) (newline (suc t) refl) in
    let more : count_by is_newline (take t xs) + 1 ≡ suc (count_by is_newline (take t xs)) = omega arith in
    (count_by is_newline (take t xs), ap (λ n. count_by is_newline (take n xs)) (sym next) ∙ counted ∙ more)

-- the number of a part that begins after a newline is the number of newlines before it
nth_part : (xs : List ℕ) (s : ℕ) → s ≤ length xs
    → ((t : ℕ) → s ≡ suc t → is_newline (get_or xs t 0) ≡ true)
    → slice_get (slice_split is_newline xs) (count_by is_newline (take s xs))
    ≡ Some (before_first is_newline (drop s xs))
nth_part xs zero within newline = first_part xs
nth_part [] (suc s) within newline = absurd (omega arith)
nth_part (x ∷ xs) (suc s) within newline =
    let rest = nth_part xs s (omega arith) (λ t e. newline (suc t) (ap suc e)) in
    ap (slice_get (slice_split is_newline (x ∷ xs))) (sum_by-cons (λ b. cond (is_newline b) 1 0) x (take s xs))
    ∙ part_step (is_newline x) x (count_by is_newline (take s xs)) (slice_split is_newline xs) (before_first is_newline (drop s xs)) rest (some_before xs x s (omega arith) newline)

-- the number of newlines stays the same over bytes without one
count-same : (xs : List ℕ) (s d : ℕ) → s + d ≤ length xs
    → ((k : ℕ) → s ≤ k → k < s + d → ¬ (is_newline (get_or xs k 0) ≡ true))
    → count_by is_newline (take (s + d) xs) ≡ count_by is_newline (take s xs)
count-same xs s zero within none = let same : s + 0 ≡ s = omega arith in ap (λ n. count_by is_newline (take n xs)) same
count-same xs s (suc d) within none =
    let next : s + suc d ≡ (s + d) + 1 = omega arith in
    ap (λ n. count_by is_newline (take n xs)) next
    ∙ count_by_more_no is_newline xs (s + d) 0 (omega arith) (not_false (is_newline (get_or xs (s + d) 0)) (none (s + d) (omega arith) (omega arith)))
    ∙ count-same xs s d (omega arith) (λ k p q. none k p (omega arith))

-- the line of a place is the bytes from where the line begins, up to the next newline
pub nth_line-at : (bytes : List ℕ) (place start : ℕ) → place ≤ length bytes → start ≤ place
    → ((k : ℕ) → start ≤ k → k < place → ¬ (is_newline (get_or (take place bytes) k 0) ≡ true))
    → ((k : ℕ) → start ≡ suc k → is_newline (get_or (take place bytes) k 0) ≡ true)
    → before_first is_newline (drop start bytes)
    ≡ nth_line bytes (count_by is_newline (take place bytes))
nth_line-at bytes place start within before none newline =
    let gap : start + (place - start) ≡ place = omega arith in
    let at = λ (k : ℕ) (p : k < place). get_or-take place bytes k 0 p in
    let counts = ap (λ n. count_by is_newline (take n bytes)) (sym gap) ∙ count-same bytes start (place - start) (omega arith) (λ k p q h. none k p (omega arith) (ap is_newline (at k (omega arith)) ∙ h)) in
    let part = nth_part bytes start (omega arith) (λ t e. ap is_newline (sym (at t (omega arith))) ∙ newline t e) in
    sym (ap (nth_line bytes) counts ∙ ap (λ o. unwrap_or o []) part)
