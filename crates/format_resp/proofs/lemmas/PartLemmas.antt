-- How the parts of a reply are told apart.
use Rattle.std.proofs.Common.{◌≡◌, ℕ, zero, suc, ◌+◌, ◌-◌, ◌≤◌, ◌<◌, ◌^◌, ◌==◌, nat_le, nat_lt, Bool, true, false, ◌&&◌, cond, List, [], ◌∷◌, ◌++◌, length, take, drop, Option, Some, None, ap, sym, ◌∙◌, subst, refl, arith, append_assoc, length-append, length-drop, true≢false}
use Rattle.std.specs.Prelude.{if◌then◌else◌, decimal}
use Rattle.std.specs.Cmp.Lexicographic.{pointwise}
use Rattle.std.specs.List.{prefix_len}
use Rattle.std.specs.Bool.{Decides}
use Rattle.std.specs.Str.Parse.{digits_value}
use Rattle.std.proofs.lemmas.Bool.Decides.{nat_tests, Decides-eqb}
use Rattle.std.proofs.lemmas.List.{append-nil, drop-drop, take_all}
use Rattle.std.proofs.lemmas.Option.{none-some, same_Some}
use Rattle.std.proofs.lemmas.Slice.Eq.{slice_eq-Decides}
use Rattle.winnow_count.specs.Reading.{IsSomeExactly}
use Rattle.format_lemmas.specs.Bytes.{Starts}
use Rattle.format_resp.specs.Language.{is_in_line, AreInLine, line, line_end, no_length, IsLength}
use Rattle.format_resp.specs.Parts.{text_width, begins_end, line_width, count_of, held_width, whole_width, part_width, EndsIn, EndsInPart, is_short, lacks_held, is_fewer}
use Rattle.format_resp.proofs.lemmas.AheadLemmas.{conses}
use Rattle.format_resp.proofs.lemmas.NumberLemmas.{no-minus, length-line}
use Rattle.format_resp.proofs.lemmas.LengthLemmas.{written-value}

-- ---- Tests and lists

-- where the test does not hold, the second is taken
cond-not : (b : Bool) (m n : ℕ) → ¬ (b ≡ true) → cond b m n ≡ n
cond-not true m n h = absurd (h refl)
cond-not false m n h = refl

-- both tests hold
both-hold : (a b : Bool) → (a && b) ≡ true → (a ≡ true) × (b ≡ true)
both-hold true true h = (refl, refl)
both-hold true false h = absurd (true≢false (sym h))
both-hold false b h = absurd (true≢false (sym h))

-- a test that does not hold is false
not-true : (b : Bool) → ¬ (b ≡ true) → b ≡ false
not-true true h = absurd (h refl)
not-true false h = refl

-- the bytes after a prefix of this length
drop-length : (p q : List ℕ) → drop (length p) (p ++ q) ≡ q
drop-length [] q = refl
drop-length (x ∷ p) q = drop-length p q

-- the bytes after a prefix
pub drop-front : (n : ℕ) (p q : List ℕ) → n ≡ length p → drop n (p ++ q) ≡ q
drop-front n p q e = ap (λ m. drop m (p ++ q)) e ∙ drop-length p q

-- the prefix of this length
take-length : (p q : List ℕ) → take (length p) (p ++ q) ≡ p
take-length [] q = refl
take-length (x ∷ p) q = ap (λ t. x ∷ t) (take-length p q)

-- the prefix
pub take-front : (n : ℕ) (p q : List ℕ) → n ≡ length p → take n (p ++ q) ≡ p
take-front n p q e = ap (λ m. take m (p ++ q)) e ∙ take-length p q

-- the length of a line
pub length-line-of : (text : List ℕ) → length (line text) ≡ length text + 2
length-line-of text = length-append text line_end

-- ---- Lines

-- a text before another byte has its width
pub text-width : (text e : List ℕ) → AreInLine text → ¬ (Starts is_in_line e)
    → text_width (text ++ e) ≡ length text
text-width [] [] h none = refl
text-width [] (c ∷ e) h none = cond-not (is_in_line c) (1 + prefix_len is_in_line e) 0 none
text-width (x ∷ text) e h none =
    let one : text_width (x ∷ (text ++ e)) ≡ 1 + text_width (text ++ e) = ap (λ b. cond b (1 + text_width (text ++ e)) 0) h.0 in
    let more : text_width (text ++ e) ≡ length text = text-width text e h.1 none in
    omega (arith, one, more)

-- the line that begins with a text
pub line-of : (text e : List ℕ) → AreInLine text → ¬ (Starts is_in_line e)
    → line_width (text ++ e) ≡ (if begins_end e then Some (length text) else None)
line-of text e h none =
    ap (λ n. if begins_end (drop n (text ++ e)) then Some n else None) (text-width text e h none)
    ∙ ap (λ t. if begins_end t then Some (length text) else None) (drop-length text e)

-- a line that stands first has the width of its text
pub line-whole : (text s : List ℕ) → AreInLine text
    → line_width (line text ++ s) ≡ Some (length text)
line-whole text s h = ap line_width (append_assoc text line_end s) ∙ line-of text (line_end ++ s) h (λ k. cc)

-- its text is what it is
pub line-text : (text s : List ℕ) → take (length text) (line text ++ s) ≡ text
line-text text s = ap (take (length text)) (append_assoc text line_end s) ∙ take-length text (line_end ++ s)

-- no line stands first where its end is missing
pub line-lacking : (text e : List ℕ) → AreInLine text → ¬ (Starts is_in_line e)
    → begins_end e ≡ false → line_width (text ++ e) ≡ None
line-lacking text e h none f = line-of text e h none ∙ ap (λ b. if b then Some (length text) else None) f

-- a text alone is no line
pub text-alone : (text : List ℕ) → AreInLine text → line_width text ≡ None
text-alone text h = ap line_width (sym (append-nil text)) ∙ line-lacking text [] h (λ e. e) refl

-- nor is a text with a carriage return
pub text-return : (text : List ℕ) → AreInLine text → line_width (text ++ 13 ∷ []) ≡ None
text-return text h = line-lacking text (13 ∷ []) h (λ k. cc) refl

-- bytes that begin with a line end
begins-two : (xs : List ℕ) → begins_end xs ≡ true → (after : List ℕ) × (xs ≡ 13 ∷ 10 ∷ after)
begins-two [] h = absurd (cc)
begins-two (x ∷ []) h = absurd (let k = (both-hold (13 == x) (10 == 0) h).1 in cc)
begins-two (x ∷ y ∷ r) h =
    let k = both-hold (13 == x) (10 == y) h in
    let cr : 13 ≡ x = (Decides-eqb 13 x).0 k.0 in
    let lf : 10 ≡ y = (Decides-eqb 10 y).0 k.1 in
    (r, conses x 13 (y ∷ r) (10 ∷ r) (sym cr) (conses y 10 r r (sym lf) refl))

-- a line stands first
abbrev pub LineStands : List ℕ → ℕ → Type 0
LineStands bytes width = (text : List ℕ) × ((after : List ℕ)
    × ((bytes ≡ line text ++ after) × AreInLine text × (length text ≡ width)))

-- where it does after one more byte
ends-step : (c : ℕ) (cs : List ℕ) (b : Bool) → is_in_line c ≡ b
    → begins_end (drop (text_width (c ∷ cs)) (c ∷ cs)) ≡ true
    → (begins_end (drop (text_width cs) cs) ≡ true → LineStands cs (text_width cs))
    → LineStands (c ∷ cs) (text_width (c ∷ cs))
ends-step c cs true is h on =
    let one : text_width (c ∷ cs) ≡ 1 + text_width cs = ap (λ b. cond b (1 + text_width cs) 0) is in
    let same : text_width (c ∷ cs) ≡ suc (text_width cs) = omega (arith, one) in
    let ends : begins_end (drop (suc (text_width cs)) (c ∷ cs)) ≡ true = subst (λ n. begins_end (drop n (c ∷ cs)) ≡ true) same h in
    let k = on ends in
    (c ∷ k.0, (k.1.0, (ap (λ t. c ∷ t) k.1.1.0, (is, k.1.1.1), omega (arith, same, k.1.1.2))))
ends-step c cs false is h on =
    let none : text_width (c ∷ cs) ≡ 0 = ap (λ b. cond b (1 + text_width cs) 0) is in
    let ends : begins_end (c ∷ cs) ≡ true = subst (λ n. begins_end (drop n (c ∷ cs)) ≡ true) none h in
    let k = begins-two (c ∷ cs) ends in
    ([], (k.0, (k.1, tt, sym none)))

-- where a line end follows the text, a line stands first
ends-stand : (bytes : List ℕ) → begins_end (drop (text_width bytes) bytes) ≡ true
    → LineStands bytes (text_width bytes)
ends-stand [] h = absurd (cc)
ends-stand (c ∷ cs) h = ends-step c cs (is_in_line c) refl h (ends-stand cs)

-- by whether a line end follows
line-case : (bytes : List ℕ) (width : ℕ) (b : Bool)
    → begins_end (drop (text_width bytes) bytes) ≡ b → line_width bytes ≡ Some width
    → LineStands bytes width
line-case bytes width true is h =
    let same : text_width bytes ≡ width =
    same_Some _ _ (sym (ap (λ b. if b then Some (text_width bytes) else None) is) ∙ h) in
    subst (LineStands bytes) same (ends-stand bytes is)
line-case bytes width false is h =
    absurd (none-some width (sym (ap (λ b. if b then Some (text_width bytes) else None) is) ∙ h))

-- a width is that of a line that stands first
pub line-stands : (bytes : List ℕ) (width : ℕ) → line_width bytes ≡ Some width
    → LineStands bytes width
line-stands bytes width h = line-case bytes width (begins_end (drop (text_width bytes) bytes)) refl h

-- ---- Lengths

-- whether two lists are equal
lists-decide : (xs ys : List ℕ) → Decides (pointwise (λ x y. x == y) xs ys) (xs ≡ ys)
lists-decide xs ys = slice_eq-Decides (λ x y. Decides-eqb x y) xs ys (pointwise (λ x y. x == y) xs ys) refl

-- the test of a number of bytes
abbrev IsCounted : List ℕ → Bool
IsCounted text = pointwise (λ x y. x == y) text (decimal (digits_value 10 text)) && nat_lt (digits_value 10 text) (2 ^ 64)

-- a number as std writes it is the number of bytes
pub count-some : (text : List ℕ) (n : ℕ) → n < 2 ^ 64 → text ≡ decimal n → count_of text ≡ Some n
count-some text n small e =
    let value : digits_value 10 text ≡ n = written-value text n small e in
    let same : pointwise (λ x y. x == y) text (decimal (digits_value 10 text)) ≡ true =
    (lists-decide text (decimal (digits_value 10 text))).1 (e ∙ ap decimal (sym value)) in
    let fits : nat_lt (digits_value 10 text) (2 ^ 64) ≡ true = grind (arith, nat_tests, value, small) in
    let test : IsCounted text ≡ true =
    ap (λ b. b && nat_lt (digits_value 10 text) (2 ^ 64)) same ∙ fits in
    ap (λ b. if b then Some (digits_value 10 text) else None) test ∙ ap (λ m. Some m) value

-- by the test
count-case : (text : List ℕ) (n : ℕ) (b : Bool) → IsCounted text ≡ b → count_of text ≡ Some n
    → (n < 2 ^ 64) × (text ≡ decimal n)
count-case text n true is h =
    let value : digits_value 10 text ≡ n = same_Some _ _ (sym (ap (λ b. if b then Some (digits_value 10 text) else None) is) ∙ h) in
    let k = both-hold (pointwise (λ x y. x == y) text (decimal (digits_value 10 text))) (nat_lt (digits_value 10 text) (2 ^ 64)) is in
    let small : digits_value 10 text < 2 ^ 64 = grind (arith, nat_tests, k.1) in
    (omega (arith, small, value), (lists-decide text (decimal (digits_value 10 text))).0 k.0 ∙ ap decimal value)
count-case text n false is h =
    absurd (none-some n (sym (ap (λ b. if b then Some (digits_value 10 text) else None) is) ∙ h))

-- a number of bytes is written as std writes it
pub count-sound : (text : List ℕ) (n : ℕ) → count_of text ≡ Some n
    → (n < 2 ^ 64) × (text ≡ decimal n)
count-sound text n h = count-case text n (IsCounted text) refl h

-- by what the number of bytes is
count-absent : (text : List ℕ) (o : Option ℕ) → count_of text ≡ o
    → ((n : ℕ) → n < 2 ^ 64 → ¬ (text ≡ decimal n)) → count_of text ≡ None
count-absent text None e lacks = e
count-absent text (Some n) e lacks = let k = count-sound text n e in absurd (lacks n k.0 k.1)

-- where no number is written, there is no number of bytes
pub count-none : (text : List ℕ) → ((n : ℕ) → n < 2 ^ 64 → ¬ (text ≡ decimal n))
    → count_of text ≡ None
count-none text lacks = count-absent text (count_of text) refl lacks

-- a reader of numbers of 64 bits reads the number of bytes
pub count-read : (text : List ℕ) (r : Option ℕ)
    → IsSomeExactly (λ n. (n < 2 ^ 64) × (text ≡ decimal n)) r → r ≡ count_of text
count-read text None h = sym (count-none text (λ n small e. none-some n ((h n).1 (small, e))))
count-read text (Some n) h = let k = (h n).0 refl in sym (count-some text n k.0 k.1)

-- -1 is no number of bytes
pub null-count : count_of no_length ≡ None
null-count = count-none no_length (λ n small e. no-minus n (49 ∷ []) small e)

-- a length is the number of bytes
pub count-length : (greatest : ℕ) (text : List ℕ) (n : ℕ) → IsLength greatest text (Some n)
    → count_of text ≡ Some n
count-length greatest text n is = count-some text n is.1 is.2

-- the text of a length can stand in a line
pub length-in_line : (greatest : ℕ) (text : List ℕ) (n : Option ℕ) → IsLength greatest text n
    → AreInLine text
length-in_line greatest text n is = (length-line greatest text n is).0

-- ---- Whole parts

-- a part of another kind than a bulk string
pub part-other : (kind : ℕ) (text s : List ℕ) → (36 == kind) ≡ false → AreInLine text
    → part_width (kind ∷ (line text ++ s)) ≡ Some (length text + 3)
part-other kind text s other h =
    let after = line text ++ s in
    ap (whole_width kind after) (line-whole text s h)
    ∙ ap (λ b. held_width (length text) (length after) (if b then count_of (take (length text) after) else None)) other

-- a bulk string with a number of bytes, perhaps not whole
pub part-bulk : (text more : List ℕ) (count : ℕ) → AreInLine text → count_of text ≡ Some count
    → part_width (36 ∷ (line text ++ more)) ≡ held_width (length text) (length (line text ++ more)) (Some count)
part-bulk text more count h is =
    let after = line text ++ more in
    ap (whole_width 36 after) (line-whole text more h)
    ∙ ap (λ t. held_width (length text) (length after) (count_of t)) (line-text text more)
    ∙ ap (held_width (length text) (length after)) is

-- the null bulk string
pub part-null : (s : List ℕ) → count_of no_length ≡ None
    → part_width (36 ∷ (line no_length ++ s)) ≡ Some 5
part-null s none =
    let after = line no_length ++ s in
    ap (whole_width 36 after) (line-whole no_length s (refl, (refl, tt)))
    ∙ ap (λ t. held_width 2 (length after) (count_of t)) (line-text no_length s)
    ∙ ap (held_width 2 (length after)) none

-- a whole bulk string
pub part-held : (text held s : List ℕ) → AreInLine text → count_of text ≡ Some (length held)
    → part_width (36 ∷ (line text ++ (line held ++ s))) ≡ Some (length text + length held + 5)
part-held text held s h is =
    let more = line held ++ s in
    let long : length text + length held + 4 ≤ length (line text ++ more) =
    omega (arith, length-append (line text) more, length-append (line held) s, length-line-of text, length-line-of held) in
    let fits : nat_le (length text + length held + 4) (length (line text ++ more)) ≡ true = grind (arith, nat_tests, long) in
    part-bulk text more (length held) h is ∙ ap (λ b. if b then Some (length text + length held + 5) else None) fits

-- a bulk string that is not whole
pub part-short : (text more : List ℕ) (count : ℕ) → AreInLine text → count_of text ≡ Some count
    → length more < count + 2 → part_width (36 ∷ (line text ++ more)) ≡ None
part-short text more count h is few =
    let long : length (line text ++ more) < length text + count + 4 =
    omega (arith, length-append (line text) more, length-line-of text, few) in
    let above : nat_le (length text + count + 4) (length (line text ++ more)) ≡ false = grind (arith, nat_tests, long) in
    part-bulk text more count h is ∙ ap (λ b. if b then Some (length text + count + 5) else None) above

-- where no line stands after the byte of a kind, no part is whole
pub part-lacking : (kind : ℕ) (bytes : List ℕ) → line_width bytes ≡ None
    → part_width (kind ∷ bytes) ≡ None
part-lacking kind bytes e = ap (whole_width kind bytes) e

-- whether a bulk string is too short
pub short-bulk : (text more : List ℕ) (count : ℕ) → AreInLine text → count_of text ≡ Some count
    → is_short (36 ∷ (line text ++ more)) ≡ nat_lt (length more) count
short-bulk text more count h is =
    let after = line text ++ more in
    let left : length after - (length text + 2) ≡ length more = omega (arith, length-append (line text) more, length-line-of text) in
    ap (lacks_held 36 after) (line-whole text more h)
    ∙ ap (λ t. is_fewer (length after - (length text + 2)) (count_of t)) (line-text text more)
    ∙ ap (is_fewer (length after - (length text + 2))) is ∙ ap (λ n. nat_lt n count) left

-- ---- Rows of parts

-- all of what follows
pub rest-all : (i : ℕ) (xs : List ℕ) → take (length xs - i) (drop i xs) ≡ drop i xs
rest-all i xs = take_all (length xs - i) (drop i xs) (omega (arith, length-drop i xs))

-- what follows further on
drop-further : (i w : ℕ) (xs : List ℕ) → drop (i + w) xs ≡ drop w (drop i xs)
drop-further i w xs = sym (drop-drop w i xs)

-- one more part before
pub ends-more : (width : ℕ) (part s begun : List ℕ) → part_width (part ++ s) ≡ Some width
    → width ≡ length part → EndsInPart s begun → EndsInPart (part ++ s) begun
ends-more width part s begun e l (n, h) =
    (suc n, (width, (e, subst (λ t. EndsIn n t begun) (sym (drop-front width part s l)) h)))

-- the part that the bytes end in is one
pub ends-once : (n m : ℕ) (bytes one two : List ℕ) → EndsIn n bytes one → EndsIn m bytes two
    → one ≡ two
ends-once zero zero bytes one two h k = sym h.0 ∙ k.0
ends-once zero (suc m) bytes one two h k = absurd (none-some k.0 (sym h.1 ∙ k.1.0))
ends-once (suc n) zero bytes one two h k = absurd (none-some h.0 (sym k.1 ∙ h.1.0))
ends-once (suc n) (suc m) bytes one two h k =
    let same : h.0 ≡ k.0 = same_Some _ _ (sym h.1.0 ∙ k.1.0) in
    ends-once n m (drop h.0 bytes) one two h.1.1 (subst (λ w. EndsIn m (drop w bytes) two) (sym same) k.1.1)

-- one more part at a place among the bytes
pub ends-on : (bytes begun : List ℕ) (i width : ℕ) → part_width (drop i bytes) ≡ Some width
    → EndsInPart (drop (i + width) bytes) begun → EndsInPart (drop i bytes) begun
ends-on bytes begun i width e (n, h) =
    (suc n, (width, (e, subst (λ t. EndsIn n t begun) (drop-further i width bytes) h)))
