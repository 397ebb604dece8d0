use Rattle.std.proofs.Common.{◌≡◌, ◌≢◌, ◌+◌, ◌==◌, ◌<◌, ◌≤◌, ℕ, zero, suc, true, false, not, cond, List, [], ◌∷◌, ◌++◌, length, get_or, drop, take, refl, ap, sym, ◌∙◌, append_assoc, arith, nat_lt}
use Rattle.std.specs.Prelude.{encode_utf8, encode_utf8_all, take_while, codes}
use Rattle.std.proofs.lemmas.Bool.Decides.{nat_tests}
use Rattle.std.proofs.lemmas.List.{at_drop_more, at_drop_all}
use Rattle.std.proofs.lemmas.List.Sums.{take_while-cons}
use Rattle.winnow_tree.specs.Abbreviation.{abbreviation, front_of_line}

abbrev shown_of : List ℕ → ℕ → List ℕ
shown_of f n = encode_utf8_all f ++ cond (nat_lt (length f) n) (codes "...") []

-- the front of an empty list is empty
take-nothing : (k : ℕ) → take {A = ℕ} k [] ≡ []
take-nothing zero = refl
take-nothing (suc k) = refl

-- facts about the tests that the abbreviation makes: of lengths, and for a newline
lt-suc : (a b : ℕ) → nat_lt (suc a) (suc b) ≡ nat_lt a b
lt-suc a b = grind (arith, nat_tests)

lt-some : (n : ℕ) → nat_lt 0 (suc n) ≡ true
lt-some n = grind (arith, nat_tests)

ten : (c : ℕ) → c ≡ 10 → not (c == 10) ≡ false
ten c h = grind (arith, nat_tests)

no_ten : (c : ℕ) → c ≢ 10 → not (c == 10) ≡ true
no_ten c h = grind (arith, nat_tests)

-- a front that is empty, and a front with one more character, as text
shown-nothing : (n : ℕ) → shown_of [] (suc n) ≡ codes "..."
shown-nothing n = ap (λ b. cond b (codes "...") []) (lt-some n)

shown-more : (c : ℕ) (f : List ℕ) (n : ℕ) → shown_of (c ∷ f) (suc n) ≡ encode_utf8 c ++ shown_of f n
shown-more c f n = ap (λ b. (encode_utf8 c ++ encode_utf8_all f) ++ cond b (codes "...") []) (lt-suc (length f) n) ∙ append_assoc (encode_utf8 c) (encode_utf8_all f) _

-- the first line ends before a newline, or goes on with the next character
line-cons : (c : ℕ) (cs : List ℕ)
    → take_while (λ x. not (x == 10)) (c ∷ cs)
    ≡ cond (not (c == 10)) (c ∷ take_while (λ x. not (x == 10)) cs) []
line-cons c cs = take_while-cons (λ x. not (x == 10)) c cs

-- a newline ends the abbreviation, and so does the last character that is allowed
newline_cuts : (k c : ℕ) (cs : List ℕ) → c ≡ 10 → abbreviation k (c ∷ cs) ≡ codes "..."
newline_cuts k c cs e =
    ap (λ l. shown_of (take k l) (suc (length cs))) (line-cons c cs ∙ ap (λ b. cond b (c ∷ take_while (λ x. not (x == 10)) cs) []) (ten c e)) ∙ ap (λ l. shown_of l (suc (length cs))) (take-nothing k) ∙ shown-nothing (length cs)

full_cuts : (c : ℕ) (cs : List ℕ) → abbreviation 0 (c ∷ cs) ≡ codes "..."
full_cuts c cs = shown-nothing (length cs)

-- a character that is no newline is written, if one more is allowed
more_shown : (k c : ℕ) (cs : List ℕ) → c ≢ 10
    → abbreviation (suc k) (c ∷ cs) ≡ encode_utf8 c ++ abbreviation k cs
more_shown k c cs h =
    ap (λ l. shown_of (take (suc k) l) (suc (length cs))) (line-cons c cs ∙ ap (λ b. cond b (c ∷ take_while (λ x. not (x == 10)) cs) []) (no_ten c h)) ∙ shown-more c (front_of_line k cs) (length cs)

-- the end of the text has nothing to write
nothing_shown : (k : ℕ) → abbreviation k [] ≡ []
nothing_shown k = ap (λ l. shown_of l 0) (take-nothing k)

-- where the loop stands at the character n, a newline ends the abbreviation
pub cuts_newline : (k n c : ℕ) (cs : List ℕ) → (n < length cs) × (c ≡ get_or cs n c) → c ≡ 10
    → abbreviation k (drop n cs) ≡ codes "..."
cuts_newline k n c cs h e = at_drop_more (abbreviation k) cs n c h.0 ∙ ap (λ x. abbreviation k (x ∷ drop (n + 1) cs)) (sym h.1) ∙ newline_cuts k c (drop (n + 1) cs) e

-- in the loop, a full abbreviation ends, another character is written, and the end writes nothing
pub cuts_full : (k n c : ℕ) (cs : List ℕ) → (n < length cs) × (c ≡ get_or cs n c) → k ≡ 0
    → abbreviation k (drop n cs) ≡ codes "..."
cuts_full k n c cs h e = ap (λ j. abbreviation j (drop n cs)) e ∙ at_drop_more (abbreviation 0) cs n c h.0 ∙ full_cuts (get_or cs n c) (drop (n + 1) cs)

pub shows_more : (j k n c : ℕ) (cs : List ℕ) → (n < length cs) × (c ≡ get_or cs n c) → c ≢ 10
    → j ≡ suc k → abbreviation j (drop n cs) ≡ encode_utf8 c ++ abbreviation k (drop (n + 1) cs)
shows_more j k n c cs h e s =
    ap (λ i. abbreviation i (drop n cs)) s ∙ at_drop_more (abbreviation (suc k)) cs n c h.0 ∙ ap (λ x. abbreviation (suc k) (x ∷ drop (n + 1) cs)) (sym h.1) ∙ more_shown k c (drop (n + 1) cs) e

pub shows_all : (k n : ℕ) (cs : List ℕ) → length cs ≤ n → abbreviation k (drop n cs) ≡ []
shows_all k n cs h = at_drop_all (abbreviation k) cs n h ∙ nothing_shown k
