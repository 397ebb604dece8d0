-- Characters in UTF-8 that break off: which bytes more bytes can make a character.
use Rattle.std.proofs.Common.{◌≡◌, ◌≢◌, ℕ, ◌+◌, ◌-◌, ◌*◌, ◌<◌, ◌≤◌, Bool, true, false, cond, ◌&&◌, ◌==◌, nat_lt, List, [], ◌∷◌, ◌++◌, length, take, get_or, refl, sym, ◌∙◌, ap, subst, arith, inl, inr}
use Rattle.std.specs.Prelude.{IsUtf8}
use Rattle.std.specs.Char.{IsScalar, encode_utf8}
use Rattle.std.specs.Int.{is_in_range}
use Rattle.std.proofs.lemmas.Str.{IsUtf8-encode, length-encode, len_utf8_bounds}
use Rattle.std.proofs.lemmas.List.{take_at, take-append-le, get_or_at, get_or_append_left}
use Rattle.std.proofs.lemmas.Bool.Decides.{nat_tests, leb_tells, eqb_tells}
use Rattle.format_json_scalars.specs.CutChars.{may_follow, is_cut_char}

-- the tests, by what decides them
eqb_false : (a b : ℕ) → b < a → (a == b) ≡ false
eqb_false a b h = grind (arith, nat_tests)

ltb_false : (a b : ℕ) → b ≤ a → nat_lt a b ≡ false
ltb_false a b h = grind (arith, nat_tests)

ltb_true : (a b : ℕ) → a < b → nat_lt a b ≡ true
ltb_true a b h = grind (arith, nat_tests)

-- both parts of a conjunction
and_true : (a b : Bool) → (a && b) ≡ true → (a ≡ true) × (b ≡ true)
and_true true b h = (refl, h)
and_true false b h = absurd (cc h)

-- ---- A character that breaks off can be finished

-- the bytes are those of a character that is not ASCII
abbrev pub IsWideChar : List ℕ → Type 0
IsWideChar bs = (c : ℕ) × (IsScalar c × (128 ≤ c) × (encode_utf8 c ≡ bs))

-- some more bytes make them those of such a character
abbrev pub CanFinish : List ℕ → Type 0
CanFinish bs = (more : List ℕ) × ((more ≢ []) × IsWideChar (bs ++ more))

-- two, three or four bytes that may follow each other are a character
two_bytes : (a b : ℕ) → 0xC2 ≤ a → a < 0xE0 → 0x80 ≤ b → b < 0xC0 → IsWideChar (a ∷ b ∷ [])
unfolding encode_utf8
two_bytes a b h1 h2 h3 h4 =
    let c = (a - 192) * 64 + (b - 128) in
    let is : encode_utf8 c ≡ a ∷ b ∷ [] = rw (ltb_false c 128 (omega arith), ltb_true c 2048 (omega arith)) (grind arith) in
    (c, (grind (arith, nat_tests), omega arith, is))

three_bytes : (a b x : ℕ) → 0xE0 ≤ a → a < 0xF0 → may_follow a b ≡ true → 0x80 ≤ x → x < 0xC0
    → IsWideChar (a ∷ b ∷ x ∷ [])
unfolding encode_utf8
three_bytes a b x h1 h2 follows h3 h4 =
    let c = (a - 224) * 4096 + (b - 128) * 64 + (x - 128) in
    let range : (128 ≤ b) × (b < 192) × (2048 ≤ c) × IsScalar c = grind (arith, nat_tests) in
    let is : encode_utf8 c ≡ a ∷ b ∷ x ∷ [] =
    rw (ltb_false c 128 (omega arith), ltb_false c 2048 range.2, ltb_true c 65536 (omega arith)) (grind arith) in
    (c, (range.3, omega (arith, range.2), is))

four_bytes : (a b x y : ℕ) → 0xF0 ≤ a → a ≤ 0xF4 → may_follow a b ≡ true → 0x80 ≤ x → x < 0xC0
    → 0x80 ≤ y → y < 0xC0 → IsWideChar (a ∷ b ∷ x ∷ y ∷ [])
unfolding encode_utf8
four_bytes a b x y h1 h2 follows h3 h4 h5 h6 =
    let c = (a - 240) * 262144 + (b - 128) * 4096 + (x - 128) * 64 + (y - 128) in
    let range : (128 ≤ b) × (b < 192) × (65536 ≤ c) × IsScalar c = grind (arith, nat_tests) in
    let is : encode_utf8 c ≡ a ∷ b ∷ x ∷ y ∷ [] =
    rw (ltb_false c 128 (omega arith), ltb_false c 2048 (omega arith), ltb_false c 65536 range.2) (grind arith) in
    (c, (range.3, omega (arith, range.2), is))

-- two bytes of a longer character can be finished
finish_two : (a b : ℕ) → 0xE0 ≤ a → a ≤ 0xF4 → may_follow a b ≡ true → CanFinish (a ∷ b ∷ [])
finish_two a b low high follows =
    elim (leb_tells 0xF0 a) [
      | inl p ↦ (128 ∷ 128 ∷ [], (λ e. cc e, four_bytes a b 128 128 p.1 high follows (omega arith) (omega arith) (omega arith) (omega arith)))
      | inr p ↦ (128 ∷ [], (λ e. cc e, three_bytes a b 128 low p.1 follows (omega arith) (omega arith)))
    ]

-- the least byte that may follow the first
abbrev least_second : ℕ → ℕ
least_second a = cond (a == 0xE0) 0xA0 (cond (a == 0xF0) 0x90 0x80)

-- it may follow
may_follow-least_second : (a : ℕ) → may_follow a (least_second a) ≡ true
may_follow-least_second a = grind (arith, nat_tests)

-- the first byte of a character can be finished
finish_one : (a : ℕ) → 0xC2 ≤ a → a ≤ 0xF4 → CanFinish (a ∷ [])
finish_one a low high =
    elim (leb_tells 0xE0 a) [
      | inl p ↦ let two = finish_two a (least_second a) p.1 high (may_follow-least_second a) in (least_second a ∷ two.0, (λ e. cc e, two.1.1))
      | inr p ↦ (128 ∷ [], (λ e. cc e, two_bytes a 128 low p.1 (omega arith) (omega arith)))
    ]

-- one, two or three bytes that `is_cut_char` passes can be finished
cut_one : (a : ℕ) → is_in_range 0xC2 0xF4 a ≡ true → CanFinish (a ∷ [])
cut_one a cut = finish_one a (grind (arith, nat_tests)) (grind (arith, nat_tests))

cut_two : (a b : ℕ) → (is_in_range 0xE0 0xF4 a && may_follow a b) ≡ true → CanFinish (a ∷ b ∷ [])
cut_two a b cut = finish_two a b (grind (arith, nat_tests)) (grind (arith, nat_tests)) (and_true _ _ cut).1

cut_three : (a b x : ℕ) → (is_in_range 0xF0 0xF4 a && is_in_range 0x80 0xBF x) ≡ true
    → may_follow a b ≡ true → CanFinish (a ∷ b ∷ x ∷ [])
cut_three a b x ranges follows =
    (128 ∷ [], (λ e. cc e, four_bytes a b x 128 (grind (arith, nat_tests)) (grind (arith, nat_tests)) follows (grind (arith, nat_tests)) (grind (arith, nat_tests)) (omega arith) (omega arith)))

-- what `is_cut_char` passes can be finished
pub CanFinish-cut : (bs : List ℕ) → is_cut_char bs ≡ true → CanFinish bs
CanFinish-cut [] cut = absurd (cc cut)
CanFinish-cut (a ∷ []) cut = cut_one a cut
CanFinish-cut (a ∷ b ∷ []) cut = cut_two a b cut
CanFinish-cut (a ∷ b ∷ x ∷ []) cut = cut_three a b x (and_true _ _ cut).0 (and_true _ _ cut).1
CanFinish-cut (a ∷ b ∷ x ∷ y ∷ rest) cut =
    let n = length (a ∷ b ∷ x ∷ y ∷ rest) in
    absurd (cc (rw (eqb_false n 1 (omega arith), eqb_false n 2 (omega arith), eqb_false n 3 (omega arith)) at cut))

-- ---- A proper prefix of a character is one that breaks off

-- a proper prefix of a character of two bytes breaks off
cut_of_two : (c k : ℕ) → 128 ≤ c → c < 2048 → 0 < k → k < length (encode_utf8 c)
    → is_cut_char (take k (encode_utf8 c)) ≡ true
unfolding encode_utf8
cut_of_two c k low high some short =
    let one : k ≡ 1 = omega (arith, rw (ltb_false c 128 low, ltb_true c 2048 high) at short) in
    rw (one, ltb_false c 128 low, ltb_true c 2048 high) (grind (arith, nat_tests))

cut_of_three : (c k : ℕ) → IsScalar c → 2048 ≤ c → c < 65536 → 0 < k → k < length (encode_utf8 c)
    → is_cut_char (take k (encode_utf8 c)) ≡ true
unfolding encode_utf8
cut_of_three c k scalar low high some short =
    let wide = ltb_false c 128 (omega arith) in
    let below : k < 3 = rw (wide, ltb_false c 2048 low, ltb_true c 65536 high) at short in
    rw (wide, ltb_false c 2048 low, ltb_true c 65536 high)
    (elim (eqb_tells k 1) [
      | inl p ↦ rw p.1 (grind (arith, nat_tests))
      | inr p ↦ let two : k ≡ 2 = omega arith in rw two (grind (arith, nat_tests))
    ])

cut_of_four : (c k : ℕ) → IsScalar c → 65536 ≤ c → 0 < k → k < length (encode_utf8 c)
    → is_cut_char (take k (encode_utf8 c)) ≡ true
unfolding encode_utf8
cut_of_four c k scalar low some short =
    let wide = ltb_false c 128 (omega arith) in
    let wider = ltb_false c 2048 (omega arith) in
    let high : c < 1114112 = grind (arith, nat_tests) in
    let below : k < 4 = rw (wide, wider, ltb_false c 65536 low) at short in
    rw (wide, wider, ltb_false c 65536 low)
    (elim (eqb_tells k 1) [
      | inl p ↦ rw p.1 (grind (arith, nat_tests))
      | inr p ↦ elim (eqb_tells k 2) [
        | inl q ↦ rw q.1 (grind (arith, nat_tests))
        | inr q ↦ let three : k ≡ 3 = omega arith in rw three (grind (arith, nat_tests))
      ]
    ])

-- of any number of bytes
is_cut_char-take : (c k : ℕ) → IsScalar c → 0 < k → k < length (encode_utf8 c)
    → is_cut_char (take k (encode_utf8 c)) ≡ true
is_cut_char-take c k scalar some short =
    elim (leb_tells 65536 c) [
      | inl p ↦ cut_of_four c k scalar p.1 some short
      | inr p ↦ elim (leb_tells 2048 c) [
        | inl q ↦ cut_of_three c k scalar q.1 p.1 some short
        | inr q ↦ elim (leb_tells 128 c) [
          | inl r ↦ cut_of_two c k r.1 q.1 some short
          | inr r ↦ absurd (omega (arith, rw (length-encode c, ltb_true c 128 r.1) at short))
        ]
      ]
    ]

-- ---- The bytes of a character after its first are not ASCII

-- the later byte of a character of two bytes
after_first_two : (c k : ℕ) → 128 ≤ c → c < 2048 → 0 < k → k < length (encode_utf8 c)
    → 128 ≤ get_or (encode_utf8 c) k 0
unfolding encode_utf8
after_first_two c k low high some short =
    let one : k ≡ 1 = omega (arith, rw (ltb_false c 128 low, ltb_true c 2048 high) at short) in
    rw (one, ltb_false c 128 low, ltb_true c 2048 high) (omega arith)

after_first_three : (c k : ℕ) → 2048 ≤ c → c < 65536 → 0 < k → k < length (encode_utf8 c)
    → 128 ≤ get_or (encode_utf8 c) k 0
unfolding encode_utf8
after_first_three c k low high some short =
    let wide = ltb_false c 128 (omega arith) in
    let below : k < 3 = rw (wide, ltb_false c 2048 low, ltb_true c 65536 high) at short in
    rw (wide, ltb_false c 2048 low, ltb_true c 65536 high)
    (elim (eqb_tells k 1) [
      | inl p ↦ rw p.1 (omega arith)
      | inr p ↦ let two : k ≡ 2 = omega arith in rw two (omega arith)
    ])

after_first_four : (c k : ℕ) → 65536 ≤ c → 0 < k → k < length (encode_utf8 c)
    → 128 ≤ get_or (encode_utf8 c) k 0
unfolding encode_utf8
after_first_four c k low some short =
    let wide = ltb_false c 128 (omega arith) in
    let wider = ltb_false c 2048 (omega arith) in
    let below : k < 4 = rw (wide, wider, ltb_false c 65536 low) at short in
    rw (wide, wider, ltb_false c 65536 low)
    (elim (eqb_tells k 1) [
      | inl p ↦ rw p.1 (omega arith)
      | inr p ↦ elim (eqb_tells k 2) [
        | inl q ↦ rw q.1 (omega arith)
        | inr q ↦ let three : k ≡ 3 = omega arith in rw three (omega arith)
      ]
    ])

-- of any number of bytes
after_first : (c k : ℕ) → 0 < k → k < length (encode_utf8 c) → 128 ≤ get_or (encode_utf8 c) k 0
after_first c k some short =
    elim (leb_tells 65536 c) [
      | inl p ↦ after_first_four c k p.1 some short
      | inr p ↦ elim (leb_tells 2048 c) [
        | inl q ↦ after_first_three c k q.1 p.1 some short
        | inr q ↦ elim (leb_tells 128 c) [
          | inl r ↦ after_first_two c k r.1 q.1 some short
          | inr r ↦ absurd (omega (arith, rw (length-encode c, ltb_true c 128 r.1) at short))
        ]
      ]
    ]

-- ---- Bytes of which no prefix is a text

-- a character has a byte
wide : (c : ℕ) → 0 < length (encode_utf8 c)
wide c = omega (arith, length-encode c, len_utf8_bounds c)

module _ (c : ℕ) (scalar : IsScalar c) (run tail rest : List ℕ) (some : 0 < length run) (none : (m : ℕ) → 0 < m → m ≤ length run → ¬ (IsUtf8 (take m run))) (split : encode_utf8 c ++ tail ≡ run ++ rest) where
  -- a character that begins such bytes is longer than they are
  longer : length run < length (encode_utf8 c)
  longer =
      elim (leb_tells (length (encode_utf8 c)) (length run)) [
        | inl p ↦
            let front : encode_utf8 c ≡ take (length (encode_utf8 c)) run =
            sym (take_at (encode_utf8 c) tail (length (encode_utf8 c)) refl) ∙ ap (take (length (encode_utf8 c))) split ∙ take-append-le (length (encode_utf8 c)) run rest p.1 in
            absurd (none (length (encode_utf8 c)) (wide c) p.1 (subst IsUtf8 front (IsUtf8-encode c scalar)))
        | inr p ↦ p.1
      ]

  -- so they break off
  pub breaks-off : is_cut_char run ≡ true
  breaks-off =
      let front : take (length run) (encode_utf8 c) ≡ run =
      sym (take-append-le (length run) (encode_utf8 c) tail (omega (arith, longer))) ∙ ap (take (length run)) split ∙ take_at run rest (length run) refl in
      subst (λ xs. is_cut_char xs ≡ true) front (is_cut_char-take c (length run) scalar some longer)

  -- and no ASCII byte follows them
  pub no-ascii : (b : ℕ) (more : List ℕ) → rest ≡ b ∷ more → 128 ≤ b
  no-ascii b more is =
      let at : get_or (encode_utf8 c) (length run) 0 ≡ b =
      sym (get_or_append_left (encode_utf8 c) tail 0 (length run) longer) ∙ ap (λ l. get_or l (length run) 0) (split ∙ ap (λ l. run ++ l) is) ∙ get_or_at run b more 0 (length run) refl in
      subst (λ n. 128 ≤ n) at (after_first c (length run) some longer)
