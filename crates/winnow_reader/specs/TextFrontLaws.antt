-- The text at the front of bytes: it is the longest one, and it stays when more bytes come. Where
-- damage follows it, it does not grow.
use Rattle.std.specs.Prelude.{IsUtf8, is_some, None}
use Rattle.std.specs.Char.{IsScalar, encode_utf8}
use Rattle.std.specs.Str.{is_utf8, encode_utf8_all}
use Rattle.std.specs.Str.Lossy.{valid_len_up_to, utf8_valid_len, utf8_error_len}
use Rattle.std.proofs.Common.{◌≡◌, ℕ, zero, suc, ◌+◌, ◌<◌, ◌≤◌, nat_lt, true, false, List, [], ◌∷◌, ◌++◌, length, take, drop, refl, sym, ◌∙◌, ap, subst, arith, inl, inr, ⊎_elim, true≢false, append_assoc, length-append, length-take, length-drop, take-append-drop}
use Rattle.std.proofs.lemmas.Bool.{cases_Bool, cases_lt, cond-true, cond-false, and_parts}
use Rattle.std.proofs.lemmas.Bool.Decides.{nat_tests, leb_tells, eqb_tells}
use Rattle.std.proofs.lemmas.List.{take_at, take-take, drop-take, take-append-le, drop-append-le}
use Rattle.std.proofs.lemmas.Str.{IsUtf8-from_is_utf8, is_utf8-from_IsUtf8, utf8_valid_len_le, IsUtf8-append, IsUtf8-drop, IsUtf8-encode, IsCharBoundary-from_take, length-encode, len_utf8_bounds}
use Rattle.winnow_reader.specs.InUtf8.{text_in, past_text}

-- ---- The longest front

-- of the fronts of at most m bytes
longest_front : (bs : List ℕ) (m : ℕ) → IsUtf8 (take (valid_len_up_to bs m) bs)
    × ((k : ℕ) → valid_len_up_to bs m < k → k ≤ m → ¬ (IsUtf8 (take k bs)))
longest_front bs zero = (([], (refl, refl)), λ k above within. absurd (omega arith))
longest_front bs (suc m) =
    let rest = longest_front bs m in
    ⊎_elim
    (λ yes.
    let is : valid_len_up_to bs (suc m) ≡ suc m = cond-true _ _ _ yes in
    (subst (λ n. IsUtf8 (take n bs)) (sym is) (IsUtf8-from_is_utf8 _ yes), λ k above within. absurd (omega arith)))
    (λ no.
    let is : valid_len_up_to bs (suc m) ≡ valid_len_up_to bs m = cond-false _ _ _ no in (
      subst (λ n. IsUtf8 (take n bs)) (sym is) rest.0,
      λ k above within u. ⊎_elim
          (λ (top : m < k).
          let same : k ≡ suc m = omega arith in
          true≢false (sym (is_utf8-from_IsUtf8 _ (subst (λ n. IsUtf8 (take n bs)) same u)) ∙ no))
          (λ (low : k ≤ m). rest.1 k (omega arith) low u)
          (cases_lt m k),
    ))
    (cases_Bool (is_utf8 (take (suc m) bs)))

-- the text at the front is UTF-8
pub IsUtf8-text_in : (bs : List ℕ) → IsUtf8 (text_in bs)
unfolding utf8_valid_len
IsUtf8-text_in bs = (longest_front bs (length bs)).0

-- no longer front is
pub no-longer : (bs : List ℕ) (m : ℕ) → utf8_valid_len bs < m → m ≤ length bs
    → ¬ (IsUtf8 (take m bs))
unfolding utf8_valid_len
no-longer bs m = (longest_front bs (length bs)).1 m

-- ---- More bytes

-- more bytes do not make the text at the front shorter
pub valid_len-longer : (bs more : List ℕ) → utf8_valid_len bs ≤ utf8_valid_len (bs ++ more)
valid_len-longer bs more =
    let n = utf8_valid_len bs in
    let within = utf8_valid_len_le bs in
    elim (leb_tells n (utf8_valid_len (bs ++ more))) [
      | inl p ↦ p.1
      | inr p ↦ absurd (no-longer (bs ++ more) n p.1 (omega (arith, within, length-append bs more)) (subst IsUtf8 (sym (take-append-le n bs more within)) (IsUtf8-text_in bs)))
    ]

-- what more bytes add to it
abbrev pub added : List ℕ → List ℕ → List ℕ
added bs more = drop (utf8_valid_len bs) (text_in (bs ++ more))

-- its front is the text that was there
front-text_in : (bs more : List ℕ) → take (utf8_valid_len bs) (text_in (bs ++ more)) ≡ text_in bs
front-text_in bs more =
    take-take _ _ (bs ++ more) (valid_len-longer bs more) ∙ take-append-le _ bs more (utf8_valid_len_le bs)

pub text_in-longer : (bs more : List ℕ) → text_in (bs ++ more) ≡ text_in bs ++ added bs more
text_in-longer bs more =
    sym (take-append-drop (utf8_valid_len bs) (text_in (bs ++ more))) ∙ ap (λ l. l ++ added bs more) (front-text_in bs more)

-- what is added is UTF-8
IsUtf8-added : (bs more : List ℕ) → IsUtf8 (added bs more)
IsUtf8-added bs more =
    let whole = text_in (bs ++ more) in
    let n = utf8_valid_len bs in
    let long : n ≤ length whole =
    omega (arith, length-take (utf8_valid_len (bs ++ more)) (bs ++ more), valid_len-longer bs more, utf8_valid_len_le (bs ++ more)) in
    let u = IsUtf8-text_in (bs ++ more) in
    IsUtf8-drop whole n u (IsCharBoundary-from_take whole n u long (subst IsUtf8 (sym (front-text_in bs more)) (IsUtf8-text_in bs)))

-- what is added begins what followed the text, and the bytes that came
abbrev beyond : List ℕ → List ℕ → List ℕ
beyond bs more = drop (utf8_valid_len (bs ++ more)) (bs ++ more)

added-front : (bs more : List ℕ) → past_text bs ++ more ≡ added bs more ++ beyond bs more
added-front bs more =
    let n = utf8_valid_len bs in
    let whole = text_in (bs ++ more) in
    let long : n ≤ length whole =
    omega (arith, length-take (utf8_valid_len (bs ++ more)) (bs ++ more), valid_len-longer bs more, utf8_valid_len_le (bs ++ more)) in
    sym (drop-append-le n bs more (utf8_valid_len_le bs))
    ∙ ap (drop n) (sym (take-append-drop (utf8_valid_len (bs ++ more)) (bs ++ more)))
    ∙ drop-append-le n whole (beyond bs more) long

-- ---- A front of a character is no damage

-- the tests, by what decides them
ltb_false : (a b : ℕ) → b ≤ a → nat_lt a b ≡ false
ltb_false a b h = grind (arith, nat_tests)

ltb_true : (a b : ℕ) → a < b → nat_lt a b ≡ true
ltb_true a b h = grind (arith, nat_tests)

-- of two, three and four bytes
cut_of_two : (c k : ℕ) → 128 ≤ c → c < 2048 → 0 < k → k < length (encode_utf8 c)
    → utf8_error_len (take k (encode_utf8 c)) ≡ None
unfolding encode_utf8 utf8_error_len
cut_of_two c k low high some short =
    let one : k ≡ 1 = omega (arith, rw (ltb_false c 128 low, ltb_true c 2048 high) at short) in
    rw (one, ltb_false c 128 low, ltb_true c 2048 high) (grind (arith, nat_tests))

cut_of_three : (c k : ℕ) → IsScalar c → 2048 ≤ c → c < 65536 → 0 < k → k < length (encode_utf8 c)
    → utf8_error_len (take k (encode_utf8 c)) ≡ None
unfolding encode_utf8 utf8_error_len
cut_of_three c k scalar low high some short =
    let wide = ltb_false c 128 (omega arith) in
    let below : k < 3 = rw (wide, ltb_false c 2048 low, ltb_true c 65536 high) at short in
    rw (wide, ltb_false c 2048 low, ltb_true c 65536 high)
    (elim (eqb_tells k 1) [
      | inl p ↦ rw p.1 (grind (arith, nat_tests))
      | inr p ↦ let two : k ≡ 2 = omega arith in rw two (grind (arith, nat_tests))
    ])

cut_of_four : (c k : ℕ) → IsScalar c → 65536 ≤ c → 0 < k → k < length (encode_utf8 c)
    → utf8_error_len (take k (encode_utf8 c)) ≡ None
unfolding encode_utf8 utf8_error_len
cut_of_four c k scalar low some short =
    let wide = ltb_false c 128 (omega arith) in
    let wider = ltb_false c 2048 (omega arith) in
    let high : c < 1114112 = grind (arith, nat_tests) in
    let below : k < 4 = rw (wide, wider, ltb_false c 65536 low) at short in
    rw (wide, wider, ltb_false c 65536 low)
    (elim (eqb_tells k 1) [
      | inl p ↦ rw p.1 (grind (arith, nat_tests))
      | inr p ↦ elim (eqb_tells k 2) [
        | inl q ↦ rw q.1 (grind (arith, nat_tests))
        | inr q ↦ let three : k ≡ 3 = omega arith in rw three (grind (arith, nat_tests))
      ]
    ])

-- of any number of bytes
cut-no_damage : (c k : ℕ) → IsScalar c → 0 < k → k < length (encode_utf8 c)
    → utf8_error_len (take k (encode_utf8 c)) ≡ None
cut-no_damage c k scalar some short =
    elim (leb_tells 65536 c) [
      | inl p ↦ cut_of_four c k scalar p.1 some short
      | inr p ↦ elim (leb_tells 2048 c) [
        | inl q ↦ cut_of_three c k scalar q.1 p.1 some short
        | inr q ↦ elim (leb_tells 128 c) [
          | inl r ↦ cut_of_two c k r.1 q.1 some short
          | inr r ↦ absurd (omega (arith, rw (length-encode c, ltb_true c 128 r.1) at short))
        ]
      ]
    ]

-- ---- Damage stays

-- there is something where there is damage
pub damage-some : (rest : List ℕ) → is_some (utf8_error_len rest) ≡ true → 0 < length rest
unfolding utf8_error_len
damage-some [] d = absurd (cc d)
damage-some (x ∷ xs) d = omega arith

-- damage is damage of longer bytes
pub damage-longer : (rest more : List ℕ) → is_some (utf8_error_len rest) ≡ true
    → is_some (utf8_error_len (rest ++ more)) ≡ true
unfolding utf8_error_len
damage-longer [] more d = absurd (cc d)
damage-longer (a ∷ []) more d = grind (arith, nat_tests)
damage-longer (a ∷ b ∷ []) more d = grind (arith, nat_tests)
damage-longer (a ∷ b ∷ x ∷ []) more d = grind (arith, nat_tests)
damage-longer (a ∷ b ∷ x ∷ y ∷ rest) more d = grind (arith, nat_tests)

module _ (bs more : List ℕ) (damage : is_some (utf8_error_len (past_text bs)) ≡ true) where
  -- no character begins what follows the text, with more bytes
  no-char : (c : ℕ) (tail : List ℕ) → IsScalar c → encode_utf8 c ++ tail ≡ past_text bs ++ more → ⊥
  no-char c tail scalar split =
      let n = utf8_valid_len bs in
      let rest = past_text bs in
      let len = length (encode_utf8 c) in
      elim (leb_tells len (length rest)) [
        | inl p ↦
            let front : encode_utf8 c ≡ take len rest =
            sym (take_at (encode_utf8 c) tail len refl) ∙ ap (take len) split ∙ take-append-le len rest more p.1 in
            let whole : take (n + len) bs ≡ text_in bs ++ encode_utf8 c =
            sym (take-append-drop n (take (n + len) bs)) ∙ ap (λ l. l ++ drop n (take (n + len) bs)) (take-take n (n + len) bs (omega arith)) ∙ ap (λ l. text_in bs ++ l) (drop-take n len bs ∙ sym front) in
            no-longer bs (n + len) (omega (arith, length-encode c, len_utf8_bounds c)) (omega (arith, p.1, length-drop n bs, utf8_valid_len_le bs))
            (subst IsUtf8 (sym whole) (IsUtf8-append (text_in bs) (encode_utf8 c) (IsUtf8-text_in bs) (IsUtf8-encode c scalar)))
        | inr p ↦
            let front : take (length rest) (encode_utf8 c) ≡ rest =
            sym (take-append-le (length rest) (encode_utf8 c) tail (omega (arith, p.1))) ∙ ap (take (length rest)) split ∙ take_at rest more (length rest) refl in
            let none = cut-no_damage c (length rest) scalar (damage-some rest damage) p.1 in
            true≢false (sym damage ∙ ap (λ l. is_some (utf8_error_len l)) (sym front) ∙ ap is_some none)
      ]

  -- so nothing is added to the text
  nothing-added : (cs : List ℕ) → IsUtf8 cs → cs ≡ added bs more → length cs ≡ 0
  nothing-added bytes ([], (scalar, is)) e = ap length (sym is)
  nothing-added bytes (c ∷ cs, (scalar, is)) e =
      absurd (no-char c (encode_utf8_all cs ++ beyond bs more) (and_parts _ _ scalar).0
      (sym (append_assoc (encode_utf8 c) (encode_utf8_all cs) (beyond bs more)) ∙ ap (λ l. l ++ beyond bs more) (is ∙ e) ∙ sym (added-front bs more)))

  -- and it stays as long as it is
  pub valid_len-damaged : utf8_valid_len (bs ++ more) ≡ utf8_valid_len bs
  valid_len-damaged =
      let none = nothing-added (added bs more) (IsUtf8-added bs more) refl in
      omega (arith, none, length-drop (utf8_valid_len bs) (text_in (bs ++ more)), length-take (utf8_valid_len (bs ++ more)) (bs ++ more), valid_len-longer bs more, utf8_valid_len_le (bs ++ more))

  -- what follows it is longer by the bytes that came
  pub past_text-damaged : past_text (bs ++ more) ≡ past_text bs ++ more
  past_text-damaged =
      ap (λ n. drop n (bs ++ more)) valid_len-damaged ∙ drop-append-le (utf8_valid_len bs) bs more (utf8_valid_len_le bs)

  -- and the text is the same
  pub text_in-damaged : text_in (bs ++ more) ≡ text_in bs
  text_in-damaged =
      ap (λ n. take n (bs ++ more)) valid_len-damaged ∙ take-append-le (utf8_valid_len bs) bs more (utf8_valid_len_le bs)
