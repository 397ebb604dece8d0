-- Where a line begins, found by the last newline before a place.
use Rattle.std.proofs.Common.{◌≡◌, ◌+◌, ◌-◌, ℕ, Bool, List, [], true, false, not, cond, length, get_or, refl, ap, sym, ◌∙◌, subst, arith}
use Rattle.std.specs.Prelude.{IsUtf8, min, take, slice_range}
use Rattle.std.specs.Str.{chars, is_utf8}
use Rattle.std.proofs.lemmas.List.{nil_from_length}
use Rattle.std.proofs.lemmas.Str.{chars-nil, IsUtf8-from_is_utf8, is_utf8-from_IsUtf8}
use Rattle.std.proofs.lemmas.List.Sums.{suffix_len_is}
use Rattle.memchr.specs.Find.{Passes, Nowhere, NoneAfter, is_byte}
use Rattle.winnow_error_parse.specs.Position.{is_newline, line_start, last_column, column_of}

-- the negation of a flag that is not true is true
not_true : (b : Bool) → (b ≡ true → ⊥) → not b ≡ true
not_true true h = absurd (h refl)
not_true false h = refl

-- the line begins after the last newline
pub line_start-after : (hay : List ℕ) (k : ℕ)
    → NoneAfter (Passes (is_byte 10) hay) 0 (length hay) k → Passes (is_byte 10) hay k
    → k + 1 ≡ line_start hay
line_start-after hay k last here =
    let back : (k + 1) - 1 ≡ k = omega arith in
    let e = suffix_len_is (λ b. not (is_newline b)) hay (k + 1) 0 (omega (arith, last.high)) (λ j p q. not_true (is_newline (get_or hay j 0)) (last.after j p q)) (λ p. rw back (ap not here)) in
    omega (arith, e, last.high)

-- the line begins at 0 if there is no newline
pub line_start-none : (hay : List ℕ) → Nowhere (Passes (is_byte 10) hay) 0 (length hay)
    → 0 ≡ line_start hay
line_start-none hay none =
    let e = suffix_len_is (λ b. not (is_newline b)) hay 0 0 (omega arith) (λ j p q. not_true (is_newline (get_or hay j 0)) (none j p q)) (λ p. absurd (omega arith)) in
    omega (arith, e)

-- the column counts characters if the part is UTF-8
pub last_column-text : (part : List ℕ) → IsUtf8 part → last_column part ≡ length (chars part) - 1
last_column-text part is = ap (λ b. cond b (length (chars part)) (length part) - 1) (is_utf8-from_IsUtf8 part is)

-- a condition that does not hold gives the second number
not_utf8 : (b : Bool) (n m : ℕ) → (b ≡ true → ⊥) → cond b n m ≡ m
not_utf8 true n m h = absurd (h refl)
not_utf8 false n m h = refl

-- the column counts bytes if the part is not UTF-8
pub last_column-bytes : (part : List ℕ) → ¬ (IsUtf8 part) → last_column part ≡ length part - 1
last_column-bytes part no_text = ap (λ n. n - 1) (not_utf8 (is_utf8 part) (length (chars part)) (length part) (λ h. no_text (IsUtf8-from_is_utf8 part h)))

-- a condition between equal numbers gives that number
both_ways : (b : Bool) (n : ℕ) → cond b n n ≡ n
both_ways true n = refl
both_ways false n = refl

-- the last column of no bytes is 0
last_column-nothing : last_column [] ≡ 0
last_column-nothing = ap (λ cs. cond (is_utf8 []) (length cs) 0 - 1) chars-nil ∙ ap (λ n. n - 1) (both_ways (is_utf8 []) 0)

-- the column in no bytes is the offset
column_of-nothing : (offset : ℕ) → offset ≡ column_of [] offset
column_of-nothing offset =
    let first : min offset 0 ≡ 0 = omega arith in
    let all : offset ≡ 0 + (offset - 0) = omega arith in
    all ∙ ap (λ n. n + (offset - 0)) (sym last_column-nothing) ∙ sym (ap (λ place. last_column (slice_range [] (line_start (take place [])) (place + 1)) + (offset - place)) first)

-- the column in bytes of length 0 is the offset
pub column_of-empty : (bytes : List ℕ) (offset : ℕ) → length bytes ≡ 0
    → offset ≡ column_of bytes offset
column_of-empty bytes offset none = subst (λ b. offset ≡ column_of b offset) (sym (nil_from_length bytes none)) (column_of-nothing offset)
