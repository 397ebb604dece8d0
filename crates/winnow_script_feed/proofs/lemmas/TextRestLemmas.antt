-- What follows a text inside a text is text: the rest of a literal, and the rest of a needle that
-- stretches.
use Rattle.std.proofs.Common.{◌≡◌, ℕ, zero, suc, ◌-◌, ◌<◌, true, List, [], ◌∷◌, ◌++◌, length, take, drop, get_or, refl, ap, sym, ◌∙◌, arith, subst, inl, inr, length-drop}
use Rattle.std.specs.List.{list_any, AllByRecursion}
use Rattle.std.specs.Char.{encode_utf8, len_utf8}
use Rattle.std.specs.Str.{chars, is_utf8, IsUtf8, IsCharBoundary, all_scalars}
use Rattle.std.proofs.lemmas.Bool.{cases_Bool}
use Rattle.std.proofs.lemmas.Option.{none-some}
use Rattle.std.proofs.lemmas.List.{get_or-drop, take_at, drop-map}
use Rattle.std.proofs.lemmas.Str.{IsUtf8-nil, IsUtf8-drop, IsUtf8-from_is_utf8, is_utf8-from_IsUtf8, IsCharBoundary-start, IsCharBoundary-from_take, scalars-chars}
use Rattle.winnow_stream.specs.Text.{text_source}
use Rattle.winnow_stream.proofs.lemmas.TextLemmas.{scalars-drop}
use Rattle.winnow_match.specs.Bytes.{written}
use Rattle.winnow_match.specs.Comparison.{IsPrefixOf}
use Rattle.winnow_match.specs.Search.{is_empty, needle_of, hit}
use Rattle.winnow_match.specs.declared.needles.Stretch.{Stretch}
use Rattle.winnow_match.specs.Stretch.{stretch_of, Stretches}
use Rattle.winnow_match.proofs.lemmas.ByteLemmas.{utf8_of-char_source}
use Rattle.winnow_match.proofs.lemmas.ByteFrontLemmas.{front_rest, is_prefix-IsPrefixOf, length-front}
use Rattle.winnow_match.proofs.lemmas.StretchLemmas.{none-or-some}
use Rattle.winnow_match.proofs.lemmas.MoveLemmas.{inside, stretch-some, stretch-first, stretch-empty}
use Rattle.winnow_script_attempt.specs.Missing.{needle_missing}

-- what remains of a text is text
pub text-drop : (bytes : List ℕ) (n : ℕ) → is_utf8 bytes ≡ true
    → is_utf8 (written encode_utf8 (drop n (text_source bytes))) ≡ true
text-drop bytes n v =
    let cs : List ℕ = chars bytes in
    let scalars : all_scalars cs ≡ true = scalars-chars bytes (IsUtf8-from_is_utf8 bytes v) in
    let e = ap (written encode_utf8) (drop-map (λ c. let x : ℕ × ℕ = (c, len_utf8 c) in x) n cs) in
    is_utf8-from_IsUtf8 (written encode_utf8 (drop n (text_source bytes))) (drop n cs, (scalars-drop n cs scalars, sym (utf8_of-char_source (drop n cs)) ∙ sym e))

-- the front of a text that is text ends at a character
rest-boundary : (l b : List ℕ) → IsUtf8 l → IsUtf8 b → IsPrefixOf b l → IsCharBoundary l (length b)
rest-boundary l b u v f =
    let h = is_prefix-IsPrefixOf b l f in
    let e : take (length b) l ≡ b = ap (take (length b)) (front_rest b l h) ∙ take_at b (drop (length b) l) (length b) refl in
    IsCharBoundary-from_take l (length b) u (length-front b l h) (subst IsUtf8 (sym e) v)

-- the rest of a text after a front that is text is text
rest-utf8 : (l b : List ℕ) → IsUtf8 l → IsUtf8 b → IsPrefixOf b l → IsUtf8 (drop (length b) l)
rest-utf8 l b u v f = IsUtf8-drop l (length b) u (rest-boundary l b u v f)

-- by the test `is_utf8`: the rest of a text after a front that is text is text
pub rest-text : (l b : List ℕ) → is_utf8 l ≡ true → is_utf8 b ≡ true → IsPrefixOf b l
    → is_utf8 (drop (length b) l) ≡ true
rest-text l b u v f = is_utf8-from_IsUtf8 (drop (length b) l) (rest-utf8 l b (IsUtf8-from_is_utf8 l u) (IsUtf8-from_is_utf8 b v) f)

-- the first byte of an appended list is that of the left part, if it has one
first-of : (xs ys : List ℕ) → 0 < length xs → get_or (xs ++ ys) 0 0 ≡ get_or xs 0 0
first-of [] ys l = absurd (omega (arith, l))
first-of (x ∷ xs) ys l = refl

-- a text that stretches at the end of a text begins at a character
stretch-boundary : (n b : List ℕ) (q : ℕ) → IsUtf8 n → q < length b → Stretches n b q
    → IsCharBoundary b q
stretch-boundary n b q u l s =
    let xs : List ℕ = drop q b in
    let some : 0 < length xs = omega (arith, l, length-drop q b) in
    let e : get_or n 0 0 ≡ get_or xs 0 0 = ap (λ ys. get_or ys 0 0) s.0.1 ∙ first-of xs s.0.0 some in
    let here : get_or b q 0 ≡ get_or n 0 0 = ap (λ m. get_or b m 0) (omega arith) ∙ sym (get_or-drop q b 0 0) ∙ sym e in
    let first = IsCharBoundary-start n u in
    (omega (arith, l), λ m a. let f = first.1 (omega (arith, some, s.1)) (omega (arith, a, here)) in omega (arith, f, here))

-- the rest of a needle that stretches is text
stretch-text : (n b : List ℕ) (q : ℕ) → IsUtf8 n → IsUtf8 b → q < length b → Stretches n b q
    → IsUtf8 (drop (length b - q) n)
stretch-text n b q u v l s =
    let e : length (drop q b) ≡ length b - q = omega (arith, length-drop q b) in
    subst (λ k. IsUtf8 (drop k n)) e (rest-utf8 n (drop q b) u (IsUtf8-drop b q v (stretch-boundary n b q u l s)) s.0)

-- each needle of a list of texts is text
text-needle : (ls : List (List ℕ)) (i : ℕ) → AllByRecursion (λ needle. is_utf8 needle ≡ true) ls
    → i < length ls → IsUtf8 (needle_of ls i)
text-needle [] i h l = absurd (omega (arith, l))
text-needle (n ∷ ls) zero h l = IsUtf8-from_is_utf8 n h.0
text-needle (n ∷ ls) (suc i) h l = text-needle ls i h.1 (omega (arith, l))

-- what a search for texts is missing is text
needle-utf8 : (ls : List (List ℕ)) (b : List ℕ) → 0 < length ls
    → AllByRecursion (λ needle. is_utf8 needle ≡ true) ls → IsUtf8 b → IsUtf8 (needle_missing ls b)
needle-utf8 ls b some us v =
    elim (none-or-some (hit ls b)) [
      | inl e ↦ rw e (text-needle ls 0 us some)
      | inr e ↦ elim (none-or-some (stretch_of ls b)) [
        | inl f ↦ rw (e.1, f) IsUtf8-nil
        | inr f ↦ elim (cases_Bool (list_any is_empty ls)) [
          | inl p ↦ absurd (none-some f.0 (sym (stretch-empty ls b p) ∙ f.1))
          | inr p ↦
              let s : Stretch = f.0 in
              let t = stretch-some ls b p e.0 e.1 s (sym (stretch-first ls b p) ∙ f.1) in
              let w = inside ls b p e.0 e.1 in
              let within : s.place < length b = elim t.can_move.first [ inl k ↦ omega (arith, k, w) | inr k ↦ omega (arith, k.0, w) ] in
              rw (e.1, f.1) (stretch-text (needle_of ls s.needle) b s.place (text-needle ls s.needle us t.can_move.listed) v within t.can_move.stretches)
        ]
      ]
    ]

-- by the test `is_utf8`: the missing part of a needle that is text is text
pub needle-text : (ls : List (List ℕ)) (b : List ℕ) → 0 < length ls
    → AllByRecursion (λ needle. is_utf8 needle ≡ true) ls → is_utf8 b ≡ true
    → is_utf8 (needle_missing ls b) ≡ true
needle-text ls b some us v = is_utf8-from_IsUtf8 (needle_missing ls b) (needle-utf8 ls b some us (IsUtf8-from_is_utf8 b v))
