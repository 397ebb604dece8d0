-- Plain bytes: which characters they spell, and where they are no UTF-8.
use Rattle.std.proofs.Common.{◌≡◌, ℕ, zero, suc, ◌<◌, ◌≤◌, Bool, true, false, ◌&&◌, List, [], ◌∷◌, ◌++◌, length, take, drop, refl, sym, ◌∙◌, ap, subst, arith, inl, inr, append_assoc, take-append-drop, length-take, take_all}
use Rattle.std.proofs.lemmas.List.{take-take}
use Rattle.std.specs.Prelude.{IsUtf8, encode_utf8_all}
use Rattle.std.specs.Str.{IsAscii}
use Rattle.std.specs.Char.{encode_utf8}
use Rattle.std.proofs.lemmas.Str.{encode_ascii, IsUtf8-from_ascii}
use Rattle.std.proofs.lemmas.Bool.Decides.{nat_tests, leb_tells}
use lib.Utf8.{scalars}
use Rattle.format_lemmas.specs.Bytes.{Each, Starts, StartsWith}
use Rattle.format_lemmas.proofs.lemmas.ByteLemmas.{heads, each-after}
use Rattle.format_json_scalars.specs.Strings.{is_plain, is_plain_ascii, SpellsChar, SpellsChars}
use Rattle.format_json_scalars.specs.CutChars.{is_cut_char}
use Rattle.format_json_scalars.specs.Escapes.{MayBeChar, IsNoChar}
use Rattle.format_json_scalars.proofs.lemmas.CutCharLemmas.{CanFinish-cut, breaks-off, no-ascii}
use Rattle.format_json_scalars.proofs.lemmas.SpellingLemmas.{spelling-no-special, escape-begins}

-- both parts of a conjunction
both : (a b : Bool) → (a && b) ≡ true → (a ≡ true) × (b ≡ true)
both true b h = (refl, h)
both false b h = absurd (cc h)

-- a character that is not ASCII is plain
wide-plain : (c : ℕ) → 128 ≤ c → is_plain c ≡ true
wide-plain c wide = grind (arith, nat_tests, wide)

-- a character of plain bytes is plain
char-plain : (c : ℕ) (rest : List ℕ) → Each is_plain (encode_utf8 c ++ rest) → is_plain c ≡ true
char-plain c rest each =
    elim (leb_tells 128 c) [
      | inl p ↦ wide-plain c p.1
      | inr p ↦ (subst (λ l. Each is_plain (l ++ rest)) (encode_ascii c p.1) each).0
    ]

-- plain bytes that are UTF-8 spell their characters
pub spells-plain : (cs : List ℕ) → scalars cs ≡ true → Each is_plain (encode_utf8_all cs)
    → SpellsChars cs (encode_utf8_all cs)
spells-plain [] scalar each = refl
spells-plain (c ∷ cs) scalar each =
    let parts = both _ _ scalar in
    (encode_utf8 c, (encode_utf8_all cs, (refl, inl (parts.0, char-plain c (encode_utf8_all cs) each, refl), spells-plain cs parts.1 (each-after is_plain (encode_utf8 c) (encode_utf8_all cs) each))))

-- the test holds of each byte of a prefix, if it holds of all
each-front : (test : ℕ → Bool) (xs ys : List ℕ) → Each test (xs ++ ys) → Each test xs
each-front test [] ys h = tt
each-front test (x ∷ xs) ys h = (h.0, each-front test xs ys h.1)

-- one more byte is plain
pub each-more : (xs : List ℕ) (b : ℕ) → Each is_plain xs → is_plain b ≡ true
    → Each is_plain (xs ++ b ∷ [])
each-more [] b h e = (e, tt)
each-more (x ∷ xs) b h e = (h.0, each-more xs b h.1 e)

-- plain characters of ASCII are ASCII
pub IsAscii-plain : (bytes : List ℕ) → Each is_plain_ascii bytes → IsAscii bytes
IsAscii-plain [] each i = omega arith
IsAscii-plain (b ∷ bytes) each zero = grind (arith, nat_tests, each.0)
IsAscii-plain (b ∷ bytes) each (suc i) = IsAscii-plain bytes each.1 i

-- they are plain
plain-ascii : (bytes : List ℕ) → Each is_plain_ascii bytes → Each is_plain bytes
plain-ascii [] each = tt
plain-ascii (b ∷ bytes) each = ((both _ _ each.0).0, plain-ascii bytes each.1)

-- plain characters of ASCII are spelt by themselves
pub spells-ascii : (bytes : List ℕ) → Each is_plain_ascii bytes
    → (cs : List ℕ) × (SpellsChars cs bytes × (bytes ≡ encode_utf8_all cs))
spells-ascii bytes each =
    let chars = IsUtf8-from_ascii bytes (IsAscii-plain bytes each) in
    (chars.0, (subst (SpellsChars chars.0) chars.1.1 (spells-plain chars.0 chars.1.0 (subst (Each is_plain) (sym chars.1.1) (plain-ascii bytes each))), sym chars.1.1))

-- a prefix of the plain bytes that is UTF-8 spells its characters
pub plain-taken : (bytes : List ℕ) (count whole : ℕ) → count ≤ length bytes
    → Each is_plain (take count bytes) → whole ≤ length (take count bytes)
    → IsUtf8 (take whole (take count bytes))
    → (cs : List ℕ) × (SpellsChars cs (take whole bytes)
    × (encode_utf8_all cs ≡ take whole (take count bytes)))
plain-taken bytes count whole within each inside (cs, (scalar, is)) =
    let run = take count bytes in
    let plain : Each is_plain (take whole run) =
    each-front is_plain (take whole run) (drop whole run) (subst (Each is_plain) (sym (take-append-drop whole run)) each) in
    let short : whole ≤ count = omega (arith, inside, length-take count bytes) in
    (cs, (subst (SpellsChars cs) (is ∙ take-take whole count bytes short) (spells-plain cs scalar (subst (Each is_plain) (sym is) plain)), is))

-- what is not true is false
false_unless_true : (b : Bool) → ¬ (b ≡ true) → b ≡ false
false_unless_true true h = absurd (h refl)
false_unless_true false h = refl

-- a byte that is not plain is ASCII
special-ascii : (b : ℕ) → ¬ (is_plain b ≡ true) → b < 128
special-ascii b h = elim (leb_tells 128 b) [ inl p ↦ absurd (h (wide-plain b p.1)) | inr p ↦ p.1 ]

-- no prefix of the run is a text
abbrev pub HasNoText : List ℕ → Type 0
HasNoText run = (m : ℕ) → 0 < m → m ≤ length run → ¬ (IsUtf8 (take m run))

-- no spelling begins where a run of plain bytes is no text, unless more bytes can make it one
none-run : (run rest more front tail : List ℕ) (c : ℕ) → 0 < length (run ++ rest)
    → ¬ (StartsWith 92 (run ++ rest)) → ¬ (Starts is_plain rest) → HasNoText run
    → (rest ≡ [] → is_cut_char run ≡ false)
    → (run ++ rest) ++ more ≡ front ++ tail → SpellsChar c front → ⊥
none-run [] [] more front tail c some no_slash ends none whole split p = absurd (omega (arith, some))
none-run [] (b ∷ rest) more front tail c some no_slash ends none whole split p =
    no_slash (spelling-no-special c b front tail (rest ++ more) p (special-ascii b ends) (false_unless_true _ ends) (sym split))
none-run (x ∷ run) [] more front tail c some no_slash ends none whole split (inl p) =
    let is : encode_utf8 c ++ tail ≡ (x ∷ run) ++ more =
    ap (λ l. l ++ tail) (sym p.2) ∙ sym split ∙ append_assoc (x ∷ run) [] more in
    let cut = breaks-off c p.0 (x ∷ run) tail more (omega arith) none is in
    let f = sym cut ∙ whole refl in
    cc f
none-run (x ∷ run) (b ∷ rest) more front tail c some no_slash ends none whole split (inl p) =
    let is : encode_utf8 c ++ tail ≡ (x ∷ run) ++ (b ∷ (rest ++ more)) =
    ap (λ l. l ++ tail) (sym p.2) ∙ sym split ∙ append_assoc (x ∷ run) (b ∷ rest) more in
    let wide = no-ascii c p.0 (x ∷ run) tail (b ∷ (rest ++ more)) (omega arith) none is b (rest ++ more) refl in
    absurd (omega (arith, wide, special-ascii b ends))
none-run (x ∷ run) rest more front tail c some no_slash ends none whole split (inr p) =
    let at = escape-begins c front tail p in
    no_slash (heads x 92 ((run ++ rest) ++ more) at.0 (split ∙ at.1))

-- bytes of a reader that are neither plain nor an escape have no text
pub plain-wrong : (bytes : List ℕ) (count : ℕ) → 0 < length bytes → ¬ (StartsWith 92 bytes)
    → ¬ (Starts is_plain (drop count bytes)) → HasNoText (take count bytes)
    → (drop count bytes ≡ [] → is_cut_char (take count bytes) ≡ false) → IsNoChar bytes
plain-wrong bytes count some no_slash ends none whole more (c, (front, (tail, (split, p)))) =
    let same = take-append-drop count bytes in
    none-run (take count bytes) (drop count bytes) more front tail c (subst (λ l. 0 < length l) (sym same) some)
    (λ h. no_slash (subst (StartsWith 92) same h)) ends none whole (ap (λ l. l ++ more) same ∙ split) p

-- plain bytes that break off may be a character
pub plain-begun : (bytes : List ℕ) (count : ℕ) → length bytes ≤ count
    → is_cut_char (take count bytes) ≡ true → MayBeChar bytes
plain-begun bytes count all cut =
    let on = CanFinish-cut bytes (subst (λ l. is_cut_char l ≡ true) (take_all count bytes all) cut) in
    let char = on.1.1 in
    (on.0, (char.0, (on.1.0, inl (char.1.0, wide-plain char.0 char.1.1, sym char.1.2))))
