-- Blanks before a token, and what follows them.
use Rattle.std.proofs.Common.{◌≡◌, ℕ, zero, suc, ◌≤◌, Bool, true, false, if◌then◌else◌, List, [], ◌∷◌, ◌++◌, length, drop, ap, sym, ◌∙◌, refl, arith, length-drop}
use Rattle.format_lemmas.specs.Bytes.{Each}
use Rattle.format_json.specs.Language.{is_blank, after_blanks}
use Rattle.format_json_events.specs.Blanks.{AreBlanks}

-- what follows blanks is what follows the blanks after some of them
pub after-known : (n : ℕ) (bytes : List ℕ) → AreBlanks n bytes
    → after_blanks (drop n bytes) ≡ after_blanks bytes
after-known zero bytes h = refl
after-known (suc n) [] h = absurd (omega (arith, h.0))
after-known (suc n) (b ∷ bytes) h =
    after-known n bytes (omega (arith, h.0), h.1.1)
    ∙ sym (ap (λ t. if t then after_blanks bytes else b ∷ bytes) h.1.0)

-- what follows the blanks of bytes follows them after more blanks too
pub after-dropped : (blanks bytes : List ℕ) → Each is_blank blanks
    → after_blanks (blanks ++ bytes) ≡ after_blanks bytes
after-dropped [] bytes h = refl
after-dropped (b ∷ blanks) bytes h =
    ap (λ t. if t then after_blanks (blanks ++ bytes) else b ∷ (blanks ++ bytes)) h.0
    ∙ after-dropped blanks bytes h.1

-- a byte before those that follow the blanks is one, and so are the others
before-if : (t : Bool) (n b : ℕ) (bytes : List ℕ) → is_blank b ≡ t → suc n ≤ length (b ∷ bytes)
    → drop n bytes ≡ (if t then after_blanks bytes else b ∷ bytes)
    → (n ≤ length bytes → drop n bytes ≡ after_blanks bytes → AreBlanks n bytes)
    → AreBlanks (suc n) (b ∷ bytes)
before-if true n b bytes is within here far =
    let more = far (omega (arith, within)) here in (within, (is, more.1))
before-if false n b bytes is within here far =
    absurd (omega (arith, ap length here, length-drop n bytes, within))

-- the bytes before those that follow the blanks are blanks
pub before-after : (n : ℕ) (bytes : List ℕ) → n ≤ length bytes → drop n bytes ≡ after_blanks bytes
    → AreBlanks n bytes
before-after zero bytes within e = (within, tt)
before-after (suc n) [] within e = absurd (omega (arith, within))
before-after (suc n) (b ∷ bytes) within e =
    before-if (is_blank b) n b bytes refl within e (before-after n bytes)

-- blanks, and then blanks, are blanks
pub blanks-join : (xs ys : List ℕ) → Each is_blank xs → Each is_blank ys
    → Each is_blank (xs ++ ys)
blanks-join [] ys h k = k
blanks-join (x ∷ xs) ys h k = (h.0, blanks-join xs ys h.1 k)
