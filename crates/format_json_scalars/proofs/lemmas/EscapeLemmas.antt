-- What stands at a backslash: bytes that are missing may be filled in, and nothing is lost.
use Rattle.std.proofs.Common.{◌≡◌, ℕ, ◌<◌, ◌≤◌, List, [], ◌∷◌, ◌++◌, length, drop, get_or, inl, inr, ap, sym, ◌∙◌, subst, refl, arith, Some, None}
use Rattle.std.specs.Char.{IsScalar}
use Rattle.std.proofs.lemmas.Bool.Decides.{nat_tests, leb_tells}
use Rattle.format_lemmas.proofs.lemmas.ByteLemmas.{heads, tails}
use Rattle.format_json_scalars.specs.Strings.{escaped, AreHex, hex_number, IsHigh, IsLow, pair_code, SpellsChar}
use Rattle.format_json_scalars.specs.Escapes.{MayBeChar, IsNoChar, IsEscape, IsPair, FillsLow, low_number, FillsCode}
use Rattle.format_json_scalars.specs.declared.escapes.Escape.{Escape}
use Rattle.format_json_scalars.specs.declared.escapes.Escape.TheVariants.{Whole}
use Rattle.format_json_scalars.proofs.lemmas.SpellingLemmas.{writes-once, IsEscapeOf, writes-letter, high-no-scalar, low-no-scalar, high-no-low, two-texts, spelling-escape}

-- ---- Pairs

-- each prefix of the escape of a second surrogate fills in to one
fills-low : (rest more tail : List ℕ) (e f g h : ℕ) → rest ++ more ≡ 92 ∷ 117 ∷ e ∷ f ∷ g ∷ h ∷ tail
    → AreHex e f g h → IsLow (hex_number e f g h) → FillsLow rest
fills-low [] more tail e f g h is hex low = (refl, refl, (omega arith, omega arith, omega arith, omega arith), (omega arith, omega arith))
fills-low (x ∷ []) more tail e f g h is hex low =
    (heads x 92 _ _ is, refl, (omega arith, omega arith, omega arith, omega arith), (omega arith, omega arith))
fills-low (x ∷ y ∷ []) more tail e f g h is hex low =
    (heads x 92 _ _ is, heads y 117 _ _ (tails x 92 _ _ is), (omega arith, omega arith, omega arith, omega arith), (omega arith, omega arith))
fills-low (x ∷ y ∷ i ∷ []) more tail e f g h is hex low =
    let two = tails y 117 _ _ (tails x 92 _ _ is) in
    let same : i ≡ e = heads i e _ _ two in
    (heads x 92 _ _ is, heads y 117 _ _ (tails x 92 _ _ is), (rw same hex.0, omega arith, omega arith, omega arith), rw same (omega (arith, hex.0, hex.1, hex.2, hex.3, low.0, low.1), omega (arith, hex.0, hex.1, hex.2, hex.3, low.0, low.1)))
fills-low (x ∷ y ∷ i ∷ j ∷ []) more tail e f g h is hex low =
    let two = tails y 117 _ _ (tails x 92 _ _ is) in
    let same : i ≡ e = heads i e _ _ two in
    let three = tails i e _ _ two in
    let also : j ≡ f = heads j f _ _ three in
    (heads x 92 _ _ is, heads y 117 _ _ (tails x 92 _ _ is), (rw same hex.0, rw also hex.1, omega arith, omega arith), rw (same, also) (omega (arith, hex.0, hex.1, hex.2, hex.3, low.0, low.1), omega (arith, hex.0, hex.1, hex.2, hex.3, low.0, low.1)))
fills-low (x ∷ y ∷ i ∷ j ∷ k ∷ []) more tail e f g h is hex low =
    let two = tails y 117 _ _ (tails x 92 _ _ is) in
    let same : i ≡ e = heads i e _ _ two in
    let three = tails i e _ _ two in
    let also : j ≡ f = heads j f _ _ three in
    let four = tails j f _ _ three in
    let third : k ≡ g = heads k g _ _ four in
    (heads x 92 _ _ is, heads y 117 _ _ (tails x 92 _ _ is), (rw same hex.0, rw also hex.1, rw third hex.2, omega arith), rw (same, also, third) (omega (arith, hex.0, hex.1, hex.2, hex.3, low.0, low.1), omega (arith, hex.0, hex.1, hex.2, hex.3, low.0, low.1)))
fills-low (x ∷ y ∷ i ∷ j ∷ k ∷ l ∷ rest) more tail e f g h is hex low =
    let two = tails y 117 _ _ (tails x 92 _ _ is) in
    let same : i ≡ e = heads i e _ _ two in
    let three = tails i e _ _ two in
    let also : j ≡ f = heads j f _ _ three in
    let four = tails j f _ _ three in
    let third : k ≡ g = heads k g _ _ four in
    let fourth : l ≡ h = heads l h _ _ (tails k g _ _ four) in
    (heads x 92 _ _ is, heads y 117 _ _ (tails x 92 _ _ is), rw (same, also, third, fourth) hex, rw (same, also, third, fourth) low)

module _ (high a b c d : ℕ) (is_high : IsHigh high) (hex : AreHex a b c d) (value : high ≡ hex_number a b c d) where
  -- two surrogates spell their character
  pub pair-spells : (x y i j k l : ℕ) → x ≡ 92 → y ≡ 117 → AreHex i j k l
      → IsLow (hex_number i j k l) → SpellsChar (pair_code high (hex_number i j k l))
      (92 ∷ 117 ∷ a ∷ b ∷ c ∷ d ∷ x ∷ y ∷ i ∷ j ∷ k ∷ l ∷ [])
  pair-spells x y i j k l is_x is_y digits low =
      inr (inr (inr (
        high,
        (
          hex_number i j k l,
          (
            92 ∷ 117 ∷ a ∷ b ∷ c ∷ d ∷ [],
            (
              x ∷ y ∷ i ∷ j ∷ k ∷ l ∷ [],
              (
                refl,
                (a, (b, (c, (d, (refl, hex, value))))),
                (i, (j, (k, (l, (ap (λ n. n ∷ y ∷ i ∷ j ∷ k ∷ l ∷ []) is_x ∙ ap (λ n. 92 ∷ n ∷ i ∷ j ∷ k ∷ l ∷ []) is_y, digits, refl))))),
                is_high,
                low,
                refl,
              ),
            ),
          ),
        ),
      )))

  -- a whole pair stands for its character
  pub pair-whole : (rest : List ℕ) (n : ℕ) → 6 ≤ length rest → FillsLow rest
      → n ≡ pair_code high (low_number rest)
      → IsEscape (92 ∷ 117 ∷ a ∷ b ∷ c ∷ d ∷ rest) (Whole n 12)
  pair-whole [] n long fills is = absurd (omega (arith, long))
  pair-whole (x ∷ []) n long fills is = absurd (omega (arith, long))
  pair-whole (x ∷ y ∷ []) n long fills is = absurd (omega (arith, long))
  pair-whole (x ∷ y ∷ i ∷ []) n long fills is = absurd (omega (arith, long))
  pair-whole (x ∷ y ∷ i ∷ j ∷ []) n long fills is = absurd (omega (arith, long))
  pair-whole (x ∷ y ∷ i ∷ j ∷ k ∷ []) n long fills is = absurd (omega (arith, long))
  pair-whole (x ∷ y ∷ i ∷ j ∷ k ∷ l ∷ rest) n long fills is =
      (omega arith, omega arith, subst (λ m. SpellsChar m (92 ∷ 117 ∷ a ∷ b ∷ c ∷ d ∷ x ∷ y ∷ i ∷ j ∷ k ∷ l ∷ [])) (sym is) (pair-spells x y i j k l fills.0 fills.1 fills.2 fills.3))

  -- a pair that breaks off may be one
  pub pair-begun : (rest : List ℕ) → length rest < 6 → FillsLow rest
      → MayBeChar (92 ∷ 117 ∷ a ∷ b ∷ c ∷ d ∷ rest)
  pair-begun [] short fills = (92 ∷ 117 ∷ 68 ∷ 67 ∷ 48 ∷ 48 ∷ [], (_, (λ e. cc e, pair-spells 92 117 68 67 48 48 refl refl fills.2 fills.3)))
  pair-begun (x ∷ []) short fills = (117 ∷ 68 ∷ 67 ∷ 48 ∷ 48 ∷ [], (_, (λ e. cc e, pair-spells x 117 68 67 48 48 fills.0 refl fills.2 fills.3)))
  pair-begun (x ∷ y ∷ []) short fills = (68 ∷ 67 ∷ 48 ∷ 48 ∷ [], (_, (λ e. cc e, pair-spells x y 68 67 48 48 fills.0 fills.1 fills.2 fills.3)))
  pair-begun (x ∷ y ∷ i ∷ []) short fills = (67 ∷ 48 ∷ 48 ∷ [], (_, (λ e. cc e, pair-spells x y i 67 48 48 fills.0 fills.1 fills.2 fills.3)))
  pair-begun (x ∷ y ∷ i ∷ j ∷ []) short fills = (48 ∷ 48 ∷ [], (_, (λ e. cc e, pair-spells x y i j 48 48 fills.0 fills.1 fills.2 fills.3)))
  pair-begun (x ∷ y ∷ i ∷ j ∷ k ∷ []) short fills = (48 ∷ [], (_, (λ e. cc e, pair-spells x y i j k 48 fills.0 fills.1 fills.2 fills.3)))
  pair-begun (x ∷ y ∷ i ∷ j ∷ k ∷ l ∷ rest) short fills = absurd (omega (arith, short))

  -- no escape begins with the first surrogate and bytes that do not fill in to a second
  pair-no : (rest more front tail : List ℕ) (n : ℕ) → ¬ (FillsLow rest)
      → 92 ∷ 117 ∷ a ∷ b ∷ c ∷ d ∷ (rest ++ more) ≡ front ++ tail → IsEscapeOf n front → ⊥
  pair-no rest more front tail n fails split (inl p) =
      writes-letter high n (92 ∷ 117 ∷ a ∷ b ∷ c ∷ d ∷ []) front (rest ++ more) tail (a, (b, (c, (d, (refl, hex, value))))) p split
  pair-no rest more front tail n fails split (inr (inl p)) =
      let one = writes-once high n (92 ∷ 117 ∷ a ∷ b ∷ c ∷ d ∷ []) front (rest ++ more) tail (a, (b, (c, (d, (refl, hex, value))))) p.1 split in
      high-no-scalar n p.0 (subst IsHigh one.0 is_high)
  pair-no rest more front tail n fails split (inr (inr (h, (l, (f, (s, (is, first, (i, (j, (k, (m, (so, digits, val))))), tall, small, code))))))) =
      let one = writes-once high h (92 ∷ 117 ∷ a ∷ b ∷ c ∷ d ∷ []) f (rest ++ more) (s ++ tail) (a, (b, (c, (d, (refl, hex, value))))) first (split ∙ sym (two-texts front f s tail _ is refl)) in
      fails (fills-low rest more tail i j k m (one.1 ∙ ap (λ t. t ++ tail) so) digits (subst IsLow val small))

  -- bytes that do not fill in to a second surrogate are no pair
  pub pair-wrong : (rest : List ℕ) → ¬ (FillsLow rest) → IsNoChar (92 ∷ 117 ∷ a ∷ b ∷ c ∷ d ∷ rest)
  pair-wrong rest fails more (n, (front, (tail, (split, spells)))) =
      pair-no rest more front tail n fails split (spelling-escape n front tail (117 ∷ a ∷ b ∷ c ∷ d ∷ (rest ++ more)) spells (sym split))

-- ---- Codes

-- each prefix of digits that write no second surrogate fills in to such digits
fills-code : (rest more tail : List ℕ) (e f g h : ℕ) → rest ++ more ≡ e ∷ f ∷ g ∷ h ∷ tail
    → AreHex e f g h → ¬ (IsLow (hex_number e f g h)) → FillsCode rest
fills-code [] more tail e f g h is hex no_low = ((omega arith, omega arith, omega arith, omega arith), λ low. absurd (omega (arith, low.0)))
fills-code (i ∷ []) more tail e f g h is hex no_low =
    let same : i ≡ e = heads i e _ _ is in
    ((rw same hex.0, omega arith, omega arith, omega arith), rw same (λ low. absurd (omega (arith, hex.0, low.0, low.1))))
fills-code (i ∷ j ∷ []) more tail e f g h is hex no_low =
    let same : i ≡ e = heads i e _ _ is in
    let also : j ≡ f = heads j f _ _ (tails i e _ _ is) in
    ((rw same hex.0, rw also hex.1, omega arith, omega arith), rw (same, also) (λ low. no_low (omega (arith, hex.0, hex.1, hex.2, hex.3, low.0, low.1), omega (arith, hex.0, hex.1, hex.2, hex.3, low.0, low.1))))
fills-code (i ∷ j ∷ k ∷ []) more tail e f g h is hex no_low =
    let same : i ≡ e = heads i e _ _ is in
    let three = tails i e _ _ is in
    let also : j ≡ f = heads j f _ _ three in
    let third : k ≡ g = heads k g _ _ (tails j f _ _ three) in
    ((rw same hex.0, rw also hex.1, rw third hex.2, omega arith), rw (same, also, third) (λ low. no_low (omega (arith, hex.0, hex.1, hex.2, hex.3, low.0, low.1), omega (arith, hex.0, hex.1, hex.2, hex.3, low.0, low.1))))
fills-code (i ∷ j ∷ k ∷ l ∷ rest) more tail e f g h is hex no_low =
    let same : i ≡ e = heads i e _ _ is in
    let three = tails i e _ _ is in
    let also : j ≡ f = heads j f _ _ three in
    let four = tails j f _ _ three in
    let third : k ≡ g = heads k g _ _ four in
    let fourth : l ≡ h = heads l h _ _ (tails k g _ _ four) in
    (rw (same, also, third, fourth) hex, rw (same, also, third, fourth) no_low)

-- a code that is no surrogate is that of a character
code-scalar : (n : ℕ) → n < 65536 → ¬ (IsHigh n) → ¬ (IsLow n) → IsScalar n
code-scalar n small no_high no_low =
    elim (leb_tells 0xD800 n) [
      | inl p ↦ elim (leb_tells 0xDC00 n) [
        | inl q ↦ elim (leb_tells 0xE000 n) [
          | inl r ↦ grind (arith, nat_tests, r.1, small)
          | inr r ↦ absurd (no_low (q.1, omega (arith, r.1)))
        ]
        | inr q ↦ absurd (no_high (p.1, omega (arith, q.1)))
      ]
      | inr p ↦ grind (arith, nat_tests, p.1)
    ]

-- after four digits that write no second surrogate, nothing or a second one completes a character
code-completes : (a b c d : ℕ) → AreHex a b c d → ¬ (IsLow (hex_number a b c d))
    → (more : List ℕ) × ((n : ℕ) × SpellsChar n (92 ∷ 117 ∷ a ∷ b ∷ c ∷ d ∷ more))
code-completes a b c d hex no_low =
    let n = hex_number a b c d in
    elim (leb_tells 0xD800 n) [
      | inl p ↦ elim (leb_tells 0xDC00 n) [
        | inl q ↦ ([], (n, inr (inr (inl (code-scalar n (omega (arith, hex.0, hex.1, hex.2, hex.3)) (λ h. absurd (omega (arith, h.1, q.1))) no_low, (a, (b, (c, (d, (refl, hex, refl))))))))))
        | inr q ↦ (92 ∷ 117 ∷ 68 ∷ 67 ∷ 48 ∷ 48 ∷ [], (_, pair-spells n a b c d (p.1, omega (arith, q.1)) hex refl 92 117 68 67 48 48 refl refl (omega arith, omega arith, omega arith, omega arith) (omega arith, omega arith)))
      ]
      | inr p ↦ ([], (n, inr (inr (inl (code-scalar n (omega (arith, hex.0, hex.1, hex.2, hex.3)) (λ h. absurd (omega (arith, h.0, p.1))) no_low, (a, (b, (c, (d, (refl, hex, refl))))))))))
    ]

-- a code that breaks off may be one
pub code-begun : (rest : List ℕ) → length rest < 4 → FillsCode rest → MayBeChar (92 ∷ 117 ∷ rest)
code-begun [] short fills =
    let on = code-completes 48 48 48 48 fills.0 fills.1 in (48 ∷ 48 ∷ 48 ∷ 48 ∷ on.0, (on.1.0, (λ e. cc e, on.1.1)))
code-begun (a ∷ []) short fills =
    let on = code-completes a 48 48 48 fills.0 fills.1 in (48 ∷ 48 ∷ 48 ∷ on.0, (on.1.0, (λ e. cc e, on.1.1)))
code-begun (a ∷ b ∷ []) short fills =
    let on = code-completes a b 48 48 fills.0 fills.1 in (48 ∷ 48 ∷ on.0, (on.1.0, (λ e. cc e, on.1.1)))
code-begun (a ∷ b ∷ c ∷ []) short fills =
    let on = code-completes a b c 48 fills.0 fills.1 in (48 ∷ on.0, (on.1.0, (λ e. cc e, on.1.1)))
code-begun (a ∷ b ∷ c ∷ d ∷ rest) short fills = absurd (omega (arith, short))

-- what a pair is, the code that begins it is
pub code-pair : (rest : List ℕ) (high : ℕ) (answer : Escape) → 4 ≤ length rest
    → AreHex (get_or rest 0 48) (get_or rest 1 48) (get_or rest 2 48) (get_or rest 3 48)
    → high ≡ hex_number (get_or rest 0 48) (get_or rest 1 48) (get_or rest 2 48) (get_or rest 3 48)
    → IsPair high (drop 4 rest) answer → IsEscape (92 ∷ 117 ∷ rest) answer
code-pair [] high answer long hex is pair = absurd (omega (arith, long))
code-pair (a ∷ []) high answer long hex is pair = absurd (omega (arith, long))
code-pair (a ∷ b ∷ []) high answer long hex is pair = absurd (omega (arith, long))
code-pair (a ∷ b ∷ c ∷ []) high answer long hex is pair = absurd (omega (arith, long))
code-pair (a ∷ b ∷ c ∷ d ∷ rest) high answer long hex is pair = pair a b c d hex is

-- no escape begins with `\u` and bytes that do not fill in to a code
code-no : (rest more front tail : List ℕ) (n : ℕ) → ¬ (FillsCode rest)
    → 92 ∷ 117 ∷ (rest ++ more) ≡ front ++ tail → IsEscapeOf n front → ⊥
code-no rest more front tail n fails split (inl (letter, (is, stands))) =
    let whole : 92 ∷ 117 ∷ (rest ++ more) ≡ 92 ∷ letter ∷ tail = split ∙ ap (λ t. t ++ tail) is in
    let none : escaped 117 ≡ Some n = ap escaped (heads 117 letter _ _ (tails 92 92 _ _ whole)) ∙ stands in
    cc none
code-no rest more front tail n fails split (inr (inl (scalar, (a, (b, (c, (d, (is, hex, value)))))))) =
    let whole : 92 ∷ 117 ∷ (rest ++ more) ≡ 92 ∷ 117 ∷ a ∷ b ∷ c ∷ d ∷ tail = split ∙ ap (λ t. t ++ tail) is in
    fails (fills-code rest more tail a b c d (tails 117 117 _ _ (tails 92 92 _ _ whole)) hex (λ low. low-no-scalar n scalar (subst IsLow (sym value) low)))
code-no rest more front tail n fails split (inr (inr (h, (l, (f, (s, (is, (a, (b, (c, (d, (so, hex, value))))), second, tall, small, code))))))) =
    let whole : 92 ∷ 117 ∷ (rest ++ more) ≡ 92 ∷ 117 ∷ a ∷ b ∷ c ∷ d ∷ (s ++ tail) =
    split ∙ sym (two-texts front f s tail _ is refl) ∙ ap (λ t. t ++ (s ++ tail)) so in
    fails (fills-code rest more (s ++ tail) a b c d (tails 117 117 _ _ (tails 92 92 _ _ whole)) hex (λ low. high-no-low h tall (subst IsLow (sym value) low)))

-- bytes that do not fill in to a code are no escape
pub code-wrong : (rest : List ℕ) → ¬ (FillsCode rest) → IsNoChar (92 ∷ 117 ∷ rest)
code-wrong rest fails more (n, (front, (tail, (split, spells)))) =
    code-no rest more front tail n fails split (spelling-escape n front tail (117 ∷ (rest ++ more)) spells (sym split))

-- ---- Letters

-- a backslash alone may be an escape
pub slash-begun : (rest : List ℕ) → length rest < 1 → MayBeChar (92 ∷ rest)
slash-begun [] short = (110 ∷ [], (10, (λ e. cc e, inr (inl (110, (refl, refl))))))
slash-begun (x ∷ rest) short = absurd (omega (arith, short))

-- no escape begins with a letter that stands for nothing
letter-no : (letter : ℕ) (rest front tail : List ℕ) (n : ℕ) → escaped letter ≡ None
    → ¬ (letter ≡ 117) → 92 ∷ letter ∷ rest ≡ front ++ tail → IsEscapeOf n front → ⊥
letter-no letter rest front tail n none other split (inl (l, (is, stands))) =
    let whole : 92 ∷ letter ∷ rest ≡ 92 ∷ l ∷ tail = split ∙ ap (λ t. t ++ tail) is in
    let f = sym none ∙ ap escaped (heads letter l _ _ (tails 92 92 _ _ whole)) ∙ stands in
    cc f
letter-no letter rest front tail n none other split (inr (inl (scalar, (a, (b, (c, (d, (is, hex, value)))))))) =
    let whole : 92 ∷ letter ∷ rest ≡ 92 ∷ 117 ∷ a ∷ b ∷ c ∷ d ∷ tail = split ∙ ap (λ t. t ++ tail) is in
    other (heads letter 117 _ _ (tails 92 92 _ _ whole))
letter-no letter rest front tail n none other split (inr (inr (h, (l, (f, (s, (is, (a, (b, (c, (d, (so, hex, value))))), second, tall, small, code))))))) =
    let whole : 92 ∷ letter ∷ rest ≡ 92 ∷ 117 ∷ a ∷ b ∷ c ∷ d ∷ (s ++ tail) =
    split ∙ sym (two-texts front f s tail _ is refl) ∙ ap (λ t. t ++ (s ++ tail)) so in
    other (heads letter 117 _ _ (tails 92 92 _ _ whole))

-- a letter that stands for nothing is no escape
pub letter-wrong : (rest : List ℕ) → 1 ≤ length rest → escaped (get_or rest 0 0) ≡ None
    → ¬ (get_or rest 0 0 ≡ 117) → IsNoChar (92 ∷ rest)
letter-wrong [] long none other = absurd (omega (arith, long))
letter-wrong (letter ∷ rest) long none other = λ more. λ begins.
    let split = begins.1.1.1.0 in
    letter-no letter (rest ++ more) begins.1.0 begins.1.1.0 begins.0 none other split
    (spelling-escape begins.0 begins.1.0 begins.1.1.0 (letter ∷ (rest ++ more)) begins.1.1.1.1 (sym split))
