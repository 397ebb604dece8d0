-- The last and the first byte with which a character begins.
use Rattle.std.proofs.Common.{◌≡◌, ◌==◌, ◌<◌, ◌≤◌, ◌+◌, ◌-◌, ℕ, Bool, List, true, false, not, cond, min, length, get_or, take, drop, refl, ap, sym, ◌∙◌, arith, length-take, length-drop}
use Rattle.std.specs.List.{position_or_len}
use Rattle.std.proofs.lemmas.List.Sums.{suffix_len_is, prefix_len_is}
use Rattle.std.specs.Str.{IsCharBoundary}
use Rattle.std.specs.declared.ops.Range.{Range}
use Rattle.std.proofs.lemmas.Bool.Decides.{nat_tests}
use Rattle.std.proofs.lemmas.List.{get_or-take, get_or-drop}
use Rattle.winnow_error_parse.specs.CharSpan.{is_boundary, last_boundary, char_span, IsCharAt}

-- the last boundary is the byte before `end`, if there is none from `end` on
pub last_boundary-at : (bytes : List ℕ) (end : ℕ) → end ≤ length bytes
    → ((k : ℕ) → end ≤ k → k < length bytes → is_boundary (get_or bytes k 0) ≡ false)
    → (0 < end → is_boundary (get_or bytes (end - 1) 0) ≡ true) → end - 1 ≡ last_boundary bytes
last_boundary-at bytes end within behind here =
    let e = suffix_len_is (λ byte. not (is_boundary byte)) bytes end 0 within (λ k p q. ap not (behind k p q)) (λ p. ap not (here p)) in
    omega (arith, e)

-- the first boundary is at n, if there is none before n
pub first_boundary-at : (bytes : List ℕ) (n : ℕ) → n ≤ length bytes
    → ((k : ℕ) → k < n → is_boundary (get_or bytes k 0) ≡ false)
    → (n < length bytes → is_boundary (get_or bytes n 0) ≡ true)
    → n ≡ position_or_len is_boundary bytes
first_boundary-at bytes n within before here =
    let e = prefix_len_is (λ byte. not (is_boundary byte)) bytes n 0 within (λ k p. ap not (before k p)) (λ p. ap not (here p)) in
    omega (arith, e)

-- a byte is a boundary exactly if it is below 128 or at least 192
begins : (byte : ℕ) → (128 ≤ byte → 192 ≤ byte) → is_boundary byte ≡ true
begins byte h = grind (arith, nat_tests, h)

is_begun : (byte : ℕ) → is_boundary byte ≡ true → 128 ≤ byte → 192 ≤ byte
is_begun byte h p = grind (arith, nat_tests, h, p)

-- a flag that is not true is false
false_of : (b : Bool) → (b ≡ true → ⊥) → b ≡ false
false_of true h = absurd (h refl)
false_of false h = refl

-- a byte where no character begins is no boundary
follows : (text : List ℕ) (k : ℕ) → k < length text → ¬ (IsCharBoundary text k)
    → is_boundary (get_or text k 0) ≡ false
follows text k within no_start = false_of (is_boundary (get_or text k 0)) (λ h. no_start (omega (arith, within), λ _ p. is_begun (get_or text k 0) h p))

-- the value of a condition that is false, and of one that is true
cond_no : {A : Type 0} (b : Bool) (x y : A) → b ≡ false → cond b x y ≡ y
cond_no true x y h = cc
cond_no false x y h = refl

cond_yes : {A : Type 0} (b : Bool) (x y : A) → b ≡ true → cond b x y ≡ x
cond_yes true x y h = refl
cond_yes false x y h = cc

abbrev record_of : ℕ → ℕ → Range ℕ
record_of s e = record { start = s; end = e }

-- at an offset inside a character, the span is the character's place
pub char_span-inside : (text : List ℕ) (start end offset : ℕ) → IsCharAt text start end
    → start ≤ offset → offset < end → char_span text offset ≡ record { start = start; end = end }
char_span-inside text start end offset is low high =
    let in_text : end ≤ length text = is.ends.0 in
    let not_end : (offset == length text) ≡ false = grind (arith, nat_tests) in
    let front : length (take (offset + 1) text) ≡ offset + 1 = simp length-take (omega arith) in
    let rest : length (drop (offset + 1) text) ≡ length text - (offset + 1) = simp length-drop refl in
    let back : (start + 1) - 1 ≡ start = omega arith in
    let on : (offset + 1) + (end - (offset + 1)) ≡ end = omega arith in
    let here : is_boundary (get_or text start 0) ≡ true = begins (get_or text start 0) (is.begins.1 (omega arith)) in
    let first = last_boundary-at (take (offset + 1) text) (start + 1) (omega arith)
    (λ k p q. ap is_boundary (get_or-take (offset + 1) text k 0 (omega arith)) ∙ follows text k (omega arith) (is.whole k (omega arith) (omega arith)))
    (λ p. ap (λ k. is_boundary (get_or (take (offset + 1) text) k 0)) back ∙ ap is_boundary (get_or-take (offset + 1) text start 0 (omega arith)) ∙ here) in
    let last = first_boundary-at (drop (offset + 1) text) (end - (offset + 1)) (omega arith)
    (λ k p. ap is_boundary (get_or-drop (offset + 1) text k 0) ∙ follows text ((offset + 1) + k) (omega arith) (is.whole ((offset + 1) + k) (omega arith) (omega arith)))
    (λ p. ap is_boundary (get_or-drop (offset + 1) text (end - (offset + 1)) 0) ∙ ap (λ k. is_boundary (get_or text k 0)) on ∙ begins (get_or text end 0) (is.ends.1 (omega arith))) in
    let least : min (offset + 1) (length text) ≡ offset + 1 = omega arith in
    let both_ends : (s e : ℕ) → s ≡ start → e ≡ end → record_of s e ≡ record_of start end = λ s e p q. ap (λ x. record_of x e) p ∙ ap (record_of start) q in
    cond_no (offset == length text) _ _ not_end
    ∙ both_ends _ _ (sym first ∙ back) (ap (λ n. n + position_or_len is_boundary (drop (offset + 1) text)) least ∙ ap (λ n. (offset + 1) + n) (sym last) ∙ on)

-- at the end, the span is empty
pub char_span-end : (bytes : List ℕ)
    → char_span bytes (length bytes) ≡ record { start = length bytes; end = length bytes }
char_span-end bytes =
    let is_end : (length bytes == length bytes) ≡ true = grind (arith, nat_tests) in
    cond_yes (length bytes == length bytes) _ _ is_end
