-- What text spells characters: in one way, and never as a quote.
use Rattle.std.proofs.Common.{◌≡◌, ℕ, ◌<◌, false, List, [], ◌∷◌, ◌++◌, ◌⊎◌, inl, inr, ap, sym, ◌∙◌, subst, refl, arith, append_assoc, append-nil, Some}
use Rattle.std.specs.Char.{IsScalar, encode_utf8}
use Rattle.std.proofs.lemmas.Bool.Decides.{nat_tests}
use Rattle.std.proofs.lemmas.Option.{same_Some}
use Rattle.std.proofs.lemmas.Str.{encode_same, char_from_byte}
use Rattle.format_lemmas.proofs.lemmas.ByteLemmas.{heads, tails}
use Rattle.format_json_scalars.specs.Strings.{is_plain, escaped, hex_number, WritesNumber, IsHigh, IsLow, IsPlainChar, IsLetterEscape, IsCodeEscape, IsPairEscape, SpellsChar, SpellsChars, pair_code}

-- ---- Escapes

-- two numbers that the same bytes write are equal, and so are the bytes after them
pub writes-once : (m n : ℕ) (t u r s : List ℕ) → WritesNumber m t → WritesNumber n u
    → t ++ r ≡ u ++ s → (m ≡ n) × (r ≡ s)
writes-once m n t u r s (a, (b, (c, (d, (is, hex, value))))) (f, (g, (h, (i, (so, also, other))))) e =
    let whole : 92 ∷ 117 ∷ a ∷ b ∷ c ∷ d ∷ r ≡ 92 ∷ 117 ∷ f ∷ g ∷ h ∷ i ∷ s =
    sym (ap (λ l. l ++ r) is) ∙ e ∙ ap (λ l. l ++ s) so in
    let one = tails 117 117 _ _ (tails 92 92 _ _ whole) in
    let two = tails a f _ _ one in
    let three = tails b g _ _ two in
    let four = tails c h _ _ three in (
      value ∙ ap (λ x. hex_number x b c d) (heads a f _ _ one) ∙ ap (λ x. hex_number f x c d) (heads b g _ _ two)
          ∙ ap (λ x. hex_number f g x d) (heads c h _ _ three) ∙ ap (λ x. hex_number f g h x) (heads d i _ _ four) ∙ sym other,
      tails d i _ _ four,
    )

-- bytes that write a number begin with no letter's escape
pub writes-letter : (n c : ℕ) (t u r s : List ℕ) → WritesNumber n t → IsLetterEscape c u
    → t ++ r ≡ u ++ s → ⊥
writes-letter n c t u r s (a, (b, (x, (d, (is, hex, value))))) (letter, (so, stands)) e =
    let whole : 92 ∷ 117 ∷ a ∷ b ∷ x ∷ d ∷ r ≡ 92 ∷ letter ∷ s =
    sym (ap (λ l. l ++ r) is) ∙ e ∙ ap (λ l. l ++ s) so in
    let is_u : 117 ≡ letter = heads 117 letter _ _ (tails 92 92 _ _ whole) in
    let none : escaped 117 ≡ Some c = ap escaped is_u ∙ stands in
    cc none

-- the first of two surrogates is no character
pub high-no-scalar : (n : ℕ) → IsScalar n → IsHigh n → ⊥
high-no-scalar n scalar high = grind (arith, nat_tests, scalar, high.0, high.1)

-- nor is the second
pub low-no-scalar : (n : ℕ) → IsScalar n → IsLow n → ⊥
low-no-scalar n scalar low = grind (arith, nat_tests, scalar, low.0, low.1)

-- a first surrogate is no second one
pub high-no-low : (n : ℕ) → IsHigh n → IsLow n → ⊥
high-no-low n high low = omega (arith, high.1, low.0)

-- an escape of any kind
abbrev pub IsEscapeOf : ℕ → List ℕ → Type 0
IsEscapeOf c text = IsLetterEscape c text ⊎ (IsCodeEscape c text ⊎ IsPairEscape c text)

-- bytes that begin with two texts
pub two-texts : (t a b r s : List ℕ) → t ≡ a ++ b → t ++ r ≡ s → a ++ (b ++ r) ≡ s
two-texts t a b r s is e = sym (append_assoc a b r) ∙ sym (ap (λ l. l ++ r) is) ∙ e

-- two letters' escapes
letters-once : (c d : ℕ) (t u r s : List ℕ) → IsLetterEscape c t → IsLetterEscape d u
    → t ++ r ≡ u ++ s → (c ≡ d) × (r ≡ s)
letters-once c d t u r s (l, (is, stands)) (m, (so, other)) e =
    let whole : 92 ∷ l ∷ r ≡ 92 ∷ m ∷ s = sym (ap (λ x. x ++ r) is) ∙ e ∙ ap (λ x. x ++ s) so in
    let rest = tails 92 92 _ _ whole in
    (same_Some _ _ (sym stands ∙ ap escaped (heads l m _ _ rest) ∙ other), tails l m _ _ rest)

-- two pairs
pairs-once : (c d : ℕ) (t u r s : List ℕ) → IsPairEscape c t → IsPairEscape d u
    → t ++ r ≡ u ++ s → (c ≡ d) × (r ≡ s)
pairs-once c d t u r s (h, (l, (a, (b, (is, first, second, high, low, code))))) (g, (k, (x, (y, (so, third, fourth, tall, small, other))))) e =
    let whole = two-texts t a b r _ is e ∙ sym (two-texts u x y s _ so refl) in
    let one = writes-once h g a x (b ++ r) (y ++ s) first third whole in
    let two = writes-once l k b y r s second fourth one.1 in
    (code ∙ ap (λ n. pair_code n l) one.0 ∙ ap (λ n. pair_code g n) two.0 ∙ sym other, two.1)

-- the escape of a code and a pair
code-pair : (c d : ℕ) (t u r s : List ℕ) → IsCodeEscape c t → IsPairEscape d u → t ++ r ≡ u ++ s → ⊥
code-pair c d t u r s (scalar, writes) (g, (k, (x, (y, (so, third, fourth, tall, small, other))))) e =
    let one = writes-once c g t x r (y ++ s) writes third (e ∙ sym (two-texts u x y s _ so refl)) in
    high-no-scalar c scalar (subst IsHigh (sym one.0) tall)

-- a pair and a letter's escape
pair-letter : (c d : ℕ) (t u r s : List ℕ) → IsPairEscape c t → IsLetterEscape d u → t ++ r ≡ u ++ s
    → ⊥
pair-letter c d t u r s (h, (l, (a, (b, (is, first, second, high, low, code))))) letter e =
    writes-letter h d a u (b ++ r) s first letter (two-texts t a b r _ is e)

-- two escapes with which the same bytes begin are of one character, and end at one place
escapes-once : (c d : ℕ) (t u r s : List ℕ) → IsEscapeOf c t → IsEscapeOf d u → t ++ r ≡ u ++ s
    → (c ≡ d) × (r ≡ s)
escapes-once c d t u r s (inl p) (inl q) e = letters-once c d t u r s p q e
escapes-once c d t u r s (inl p) (inr (inl q)) e = absurd (writes-letter d c u t s r q.1 p (sym e))
escapes-once c d t u r s (inl p) (inr (inr q)) e = absurd (pair-letter d c u t s r q p (sym e))
escapes-once c d t u r s (inr (inl p)) (inl q) e = absurd (writes-letter c d t u r s p.1 q e)
escapes-once c d t u r s (inr (inl p)) (inr (inl q)) e = writes-once c d t u r s p.1 q.1 e
escapes-once c d t u r s (inr (inl p)) (inr (inr q)) e = absurd (code-pair c d t u r s p q e)
escapes-once c d t u r s (inr (inr p)) (inl q) e = absurd (pair-letter c d t u r s p q e)
escapes-once c d t u r s (inr (inr p)) (inr (inl q)) e = absurd (code-pair d c u t s r q p (sym e))
escapes-once c d t u r s (inr (inr p)) (inr (inr q)) e = pairs-once c d t u r s p q e

-- an escape begins with a backslash
pub escape-begins : (c : ℕ) (t r : List ℕ) → IsEscapeOf c t → (s : List ℕ) × (t ++ r ≡ 92 ∷ s)
escape-begins c t r (inl (l, (is, stands))) = (l ∷ r, ap (λ x. x ++ r) is)
escape-begins c t r (inr (inl (scalar, (a, (b, (x, (d, (is, hex, value)))))))) = (117 ∷ a ∷ b ∷ x ∷ d ∷ r, ap (λ l. l ++ r) is)
escape-begins c t r (inr (inr (h, (l, (f, (g, (is, (a, (b, (x, (d, (so, hex, value))))), second, high, low, code))))))) =
    (117 ∷ a ∷ b ∷ x ∷ d ∷ (g ++ r), sym (two-texts t f g r _ is refl) ∙ ap (λ l. l ++ (g ++ r)) so)

-- ---- Characters

-- a plain character does not begin with an ASCII byte that is not plain
plain-no-special : (c b : ℕ) (t r s : List ℕ) → IsPlainChar c t → b < 128 → is_plain b ≡ false
    → t ++ r ≡ b ∷ s → ⊥
plain-no-special c b t r s (scalar, plain, is) low special e =
    let split : b ∷ s ≡ encode_utf8 c ++ r = sym e ∙ ap (λ l. l ++ r) is in
    let same : c ≡ b = char_from_byte (b ∷ s) r c split low (omega arith) in
    let f = sym plain ∙ ap is_plain same ∙ special in cc f

-- nor does any spelling, unless it begins with a backslash
pub spelling-no-special : (c b : ℕ) (t r s : List ℕ) → SpellsChar c t → b < 128 → is_plain b ≡ false
    → t ++ r ≡ b ∷ s → b ≡ 92
spelling-no-special c b t r s (inl p) low special e = absurd (plain-no-special c b t r s p low special e)
spelling-no-special c b t r s (inr p) low special e =
    let at = escape-begins c t r p in heads b 92 s at.0 (sym e ∙ at.1)

-- a spelling begins with no quote
pub spelling-no-quote : (c : ℕ) (t r s : List ℕ) → SpellsChar c t → t ++ r ≡ 34 ∷ s → ⊥
spelling-no-quote c t r s p e = let f = spelling-no-special c 34 t r s p (omega arith) refl e in omega (arith, f)

-- bytes that begin with a backslash and a spelling begin with an escape
pub spelling-escape : (c : ℕ) (t r s : List ℕ) → SpellsChar c t → t ++ r ≡ 92 ∷ s → IsEscapeOf c t
spelling-escape c t r s (inl p) e = absurd (plain-no-special c 92 t r s p (omega arith) refl e)
spelling-escape c t r s (inr p) e = p

-- two spellings with which the same bytes begin are of one character, and end at one place
pub spelling-once : (c d : ℕ) (t u r s : List ℕ) → SpellsChar c t → SpellsChar d u → t ++ r ≡ u ++ s
    → (c ≡ d) × (r ≡ s)
spelling-once c d t u r s (inl p) (inl q) e =
    encode_same c d r s (sym (ap (λ l. l ++ r) p.2) ∙ e ∙ ap (λ l. l ++ s) q.2)
spelling-once c d t u r s (inl p) (inr q) e =
    let at = escape-begins d u s q in absurd (plain-no-special c 92 t r at.0 p (omega arith) refl (e ∙ at.1))
spelling-once c d t u r s (inr p) (inl q) e =
    let at = escape-begins c t r p in absurd (plain-no-special d 92 u s at.0 q (omega arith) refl (sym e ∙ at.1))
spelling-once c d t u r s (inr p) (inr q) e = escapes-once c d t u r s p q e

-- ---- Several characters

-- texts in a row spell the characters in a row
pub spells-append : (cs ds t u : List ℕ) → SpellsChars cs t → SpellsChars ds u
    → SpellsChars (cs ++ ds) (t ++ u)
spells-append [] ds t u p q = subst (λ l. SpellsChars ds (l ++ u)) (sym p) q
spells-append (c ∷ cs) ds t u (f, (r, (is, one, more))) q =
    (f, (r ++ u, (ap (λ l. l ++ u) is ∙ append_assoc f r u, one, spells-append cs ds r u more q)))

-- one character
pub spells-one : (c : ℕ) (t : List ℕ) → SpellsChar c t → SpellsChars (c ∷ []) t
spells-one c t p = (t, ([], (sym (append-nil t), p, refl)))

-- where some characters stand first in a string, the others and the quote stand after them
pub spells-past : (cs ds t u r s : List ℕ) → SpellsChars cs t → SpellsChars ds u
    → t ++ r ≡ u ++ 34 ∷ s
    → (es : List ℕ) × ((w : List ℕ) × ((ds ≡ cs ++ es) × SpellsChars es w × (r ≡ w ++ 34 ∷ s)))
spells-past [] ds t u r s p q e = (ds, (u, (refl, q, sym (ap (λ l. l ++ r) p) ∙ e)))
spells-past (c ∷ cs) [] t u r s (f, (g, (is, one, more))) q e =
    absurd (spelling-no-quote c f (g ++ r) s one (two-texts t f g r _ is e ∙ ap (λ l. l ++ 34 ∷ s) q))
spells-past (c ∷ cs) (d ∷ ds) t u r s (f, (g, (is, one, more))) (h, (k, (so, other, later))) e =
    let whole = two-texts t f g r _ is e ∙ sym (two-texts u h k (34 ∷ s) _ so refl) in
    let same = spelling-once c d f h (g ++ r) (k ++ 34 ∷ s) one other whole in
    let on = spells-past cs ds g k r s more later same.1 in
    (on.0, (on.1.0, (ap (λ x. x ∷ ds) (sym same.0) ∙ ap (λ l. c ∷ l) on.1.1.0, on.1.1.1, on.1.1.2)))
