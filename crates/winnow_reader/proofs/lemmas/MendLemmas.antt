-- A text that breaks off can go on: bytes without damage after a text begin a character.
use Rattle.std.specs.Prelude.{IsUtf8, is_some}
use Rattle.std.specs.Char.{IsScalar, encode_utf8}
use Rattle.std.specs.Int.{is_in_range}
use Rattle.std.specs.Str.Lossy.{utf8_valid_len, utf8_error_len, second_byte_min, second_byte_max}
use Rattle.std.proofs.Common.{◌≡◌, ℕ, ◌+◌, ◌-◌, ◌*◌, ◌<◌, ◌≤◌, Bool, true, false, nat_lt, List, [], ◌∷◌, ◌++◌, length, take, drop, sym, ◌∙◌, ap, subst, arith, inl, inr, append_assoc, length-drop, take-append-drop}
use Rattle.std.proofs.lemmas.Bool.Decides.{nat_tests, leb_tells}
use Rattle.std.proofs.lemmas.List.{take-take, drop-take}
use Rattle.std.proofs.lemmas.Str.{IsUtf8-nil, IsUtf8-append, IsUtf8-encode, utf8_valid_len_le}
use Rattle.winnow_reader.specs.InUtf8.{text_in, past_text}
use Rattle.winnow_reader.specs.TextFrontLaws.{IsUtf8-text_in, no-longer}

-- the tests, by what decides them
ltb_false : (a b : ℕ) → b ≤ a → nat_lt a b ≡ false
ltb_false a b h = grind (arith, nat_tests)

ltb_true : (a b : ℕ) → a < b → nat_lt a b ≡ true
ltb_true a b h = grind (arith, nat_tests)

-- the second byte may follow the first (Unicode, table 3-7)
abbrev follows : ℕ → ℕ → Bool
follows a b = is_in_range (second_byte_min a) (second_byte_max a) b

-- the bytes of a character are UTF-8
spelt : (c : ℕ) (bs : List ℕ) → IsScalar c → encode_utf8 c ≡ bs → IsUtf8 bs
spelt c bs scalar is = subst IsUtf8 is (IsUtf8-encode c scalar)

-- two, three and four bytes that may follow each other are
two_bytes : (a b : ℕ) → 0xC2 ≤ a → a < 0xE0 → 0x80 ≤ b → b < 0xC0 → IsUtf8 (a ∷ b ∷ [])
unfolding encode_utf8
two_bytes a b h1 h2 h3 h4 =
    let c = (a - 192) * 64 + (b - 128) in
    let is : encode_utf8 c ≡ a ∷ b ∷ [] = rw (ltb_false c 128 (omega arith), ltb_true c 2048 (omega arith)) (grind arith) in
    spelt c (a ∷ b ∷ []) (grind (arith, nat_tests)) is

three_bytes : (a b x : ℕ) → 0xE0 ≤ a → a < 0xF0 → follows a b ≡ true → 0x80 ≤ x → x < 0xC0
    → IsUtf8 (a ∷ b ∷ x ∷ [])
unfolding encode_utf8
three_bytes a b x h1 h2 may h3 h4 =
    let c = (a - 224) * 4096 + (b - 128) * 64 + (x - 128) in
    let range : (128 ≤ b) × (b < 192) × (2048 ≤ c) × IsScalar c = grind (arith, nat_tests) in
    let is : encode_utf8 c ≡ a ∷ b ∷ x ∷ [] =
    rw (ltb_false c 128 (omega arith), ltb_false c 2048 range.2, ltb_true c 65536 (omega arith)) (grind arith) in
    spelt c (a ∷ b ∷ x ∷ []) range.3 is

four_bytes : (a b x y : ℕ) → 0xF0 ≤ a → a ≤ 0xF4 → follows a b ≡ true → 0x80 ≤ x → x < 0xC0
    → 0x80 ≤ y → y < 0xC0 → IsUtf8 (a ∷ b ∷ x ∷ y ∷ [])
unfolding encode_utf8
four_bytes a b x y h1 h2 may h3 h4 h5 h6 =
    let c = (a - 240) * 262144 + (b - 128) * 4096 + (x - 128) * 64 + (y - 128) in
    let range : (128 ≤ b) × (b < 192) × (65536 ≤ c) × IsScalar c = grind (arith, nat_tests) in
    let is : encode_utf8 c ≡ a ∷ b ∷ x ∷ y ∷ [] =
    rw (ltb_false c 128 (omega arith), ltb_false c 2048 (omega arith), ltb_false c 65536 range.2) (grind arith) in
    spelt c (a ∷ b ∷ x ∷ y ∷ []) range.3 is

-- some more bytes make these UTF-8
abbrev pub CanGoOn : List ℕ → Type 0
CanGoOn bs = (more : List ℕ) × IsUtf8 (bs ++ more)

-- two bytes of a character can go on
two-on : (a b : ℕ) → 0xC2 ≤ a → a ≤ 0xF4 → follows a b ≡ true → CanGoOn (a ∷ b ∷ [])
two-on a b low high may =
    elim (leb_tells 0xF0 a) [
      | inl p ↦ (128 ∷ 128 ∷ [], four_bytes a b 128 128 p.1 high may (omega arith) (omega arith) (omega arith) (omega arith))
      | inr p ↦ elim (leb_tells 0xE0 a) [
        | inl q ↦ (128 ∷ [], three_bytes a b 128 q.1 p.1 may (omega arith) (omega arith))
        | inr q ↦ ([], two_bytes a b low q.1 (grind (arith, nat_tests)) (grind (arith, nat_tests)))
      ]
    ]

-- the least byte that may follow the first may
least-follows : (a : ℕ) → follows a (second_byte_min a) ≡ true
least-follows a = grind (arith, nat_tests)

-- the first byte of a character can go on
one-on : (a : ℕ) → 0xC2 ≤ a → a ≤ 0xF4 → CanGoOn (a ∷ [])
one-on a low high =
    let two = two-on a (second_byte_min a) low high (least-follows a) in
    (second_byte_min a ∷ two.0, two.1)

-- three bytes can, where no two of them are a character
three-on : (a b x : ℕ) → 0xC2 ≤ a → a ≤ 0xF4 → follows a b ≡ true → 0x80 ≤ x → x < 0xC0
    → ¬ (IsUtf8 (a ∷ b ∷ [])) → CanGoOn (a ∷ b ∷ x ∷ [])
three-on a b x low high may h3 h4 none =
    elim (leb_tells 0xF0 a) [
      | inl p ↦ (128 ∷ [], four_bytes a b x 128 p.1 high may h3 h4 (omega arith) (omega arith))
      | inr p ↦ elim (leb_tells 0xE0 a) [
        | inl q ↦ ([], three_bytes a b x q.1 p.1 may h3 h4)
        | inr q ↦ absurd (none (two_bytes a b low q.1 (grind (arith, nat_tests)) (grind (arith, nat_tests))))
      ]
    ]

-- bytes without damage, of which no front is UTF-8, can go on
goes-on : (rest : List ℕ) → ((m : ℕ) → 0 < m → m ≤ length rest → ¬ (IsUtf8 (take m rest)))
    → is_some (utf8_error_len rest) ≡ false → CanGoOn rest
unfolding utf8_error_len
goes-on [] none whole = ([], IsUtf8-nil)
goes-on (a ∷ []) none whole = one-on a (grind (arith, nat_tests)) (grind (arith, nat_tests))
goes-on (a ∷ b ∷ []) none whole =
    two-on a b (grind (arith, nat_tests)) (grind (arith, nat_tests)) (grind (arith, nat_tests))
goes-on (a ∷ b ∷ x ∷ []) none whole =
    three-on a b x (grind (arith, nat_tests)) (grind (arith, nat_tests)) (grind (arith, nat_tests)) (grind (arith, nat_tests)) (grind (arith, nat_tests)) (none 2 (omega arith) (omega arith))
goes-on (a ∷ b ∷ x ∷ y ∷ rest) none whole = absurd (grind (arith, nat_tests))

-- so can bytes after whose text no damage follows
pub CanGoOn-undamaged : (bs : List ℕ) → is_some (utf8_error_len (past_text bs)) ≡ false → CanGoOn bs
CanGoOn-undamaged bs whole =
    let n = utf8_valid_len bs in
    let text = text_in bs in
    let rest = past_text bs in
    let none : (m : ℕ) → 0 < m → m ≤ length rest → ¬ (IsUtf8 (take m rest)) = λ m some within u.
    let longer : take (n + m) bs ≡ text ++ take m rest =
    sym (take-append-drop n (take (n + m) bs)) ∙ ap (λ l. l ++ drop n (take (n + m) bs)) (take-take n (n + m) bs (omega arith)) ∙ ap (λ l. text ++ l) (drop-take n m bs) in
    no-longer bs (n + m) (omega (arith, some)) (omega (arith, within, length-drop n bs, utf8_valid_len_le bs))
    (subst IsUtf8 (sym longer) (IsUtf8-append text (take m rest) (IsUtf8-text_in bs) u))
    in
    let on = goes-on rest none whole in
    let split : bs ++ on.0 ≡ text ++ (rest ++ on.0) =
    ap (λ l. l ++ on.0) (sym (take-append-drop n bs)) ∙ append_assoc text rest on.0 in
    (on.0, subst IsUtf8 (sym split) (IsUtf8-append text (rest ++ on.0) (IsUtf8-text_in bs) on.1))
