-- What is written for a string spells its characters.
use Rattle.std.proofs.Common.{◌≡◌, ℕ, ◌<◌, ◌≤◌, ◌/◌, ◌%◌, ◌&&◌, Bool, true, false, if◌then◌else◌, nat_lt, List, [], ◌∷◌, ◌++◌, Option, Some, None, inl, inr, ap, sym, ◌∙◌, subst, refl, arith, append_assoc, append-nil}
use Rattle.std.specs.Prelude.{encode_utf8_all, ⊤}
use Rattle.std.specs.List.{flat_map}
use Rattle.std.specs.Char.{IsScalar, encode_utf8, digit_char}
use Rattle.std.specs.String.{string_bytes}
use Rattle.std.specs.declared.string.String.{String}
use Rattle.std.specs.declared.alloc.Global.{Global}
use Rattle.std.proofs.lemmas.Bool.Decides.{nat_tests, eqb_tells, leb_tells}
use Rattle.std.proofs.lemmas.Grind.{flat_map-append}
use Rattle.std.proofs.lemmas.Option.{same_Some}
use Rattle.std.proofs.lemmas.Str.{encode_ascii, digit_value-digit_char, IsUtf8-string_bytes}
use lib.Utf8.{scalars}
use Rattle.format_json_scalars.specs.Strings.{escaped, WritesNumber, SpellsChar, SpellsChars}
use Rattle.format_json_scalars.specs.StringAnswers.{StringHere}
use Rattle.format_json_scalars.specs.Quoting.{letter_of, written_code, written_letter, written_byte, written_string}

-- ---- ASCII

-- the letter at a byte that is known
letter-at : (n c l m : ℕ) → n ≡ c → letter_of n ≡ Some m → escaped m ≡ Some n
    → letter_of c ≡ Some l → escaped l ≡ Some c
letter-at n c l m same is stands e =
    ap escaped (same_Some l m (sym e ∙ ap letter_of (sym same) ∙ is)) ∙ stands ∙ ap Some same

-- the letter that stands for a byte escapes it
letter-escapes : (c l : ℕ) → letter_of c ≡ Some l → escaped l ≡ Some c
letter-escapes c l e =
    elim (eqb_tells 34 c) [
      | inl p ↦ letter-at 34 c l 34 p.1 refl refl e
      | inr a ↦ elim (eqb_tells 92 c) [
        | inl p ↦ letter-at 92 c l 92 p.1 refl refl e
        | inr b ↦ elim (eqb_tells 8 c) [
          | inl p ↦ letter-at 8 c l 98 p.1 refl refl e
          | inr d ↦ elim (eqb_tells 12 c) [
            | inl p ↦ letter-at 12 c l 102 p.1 refl refl e
            | inr f ↦ elim (eqb_tells 10 c) [
              | inl p ↦ letter-at 10 c l 110 p.1 refl refl e
              | inr g ↦ elim (eqb_tells 13 c) [
                | inl p ↦ letter-at 13 c l 114 p.1 refl refl e
                | inr h ↦ elim (eqb_tells 9 c) [
                  | inl p ↦ letter-at 9 c l 116 p.1 refl refl e
                  | inr k ↦ absurd (cc (rw (a.0, b.0, d.0, f.0, g.0, h.0, k.0) at e))
                ]
              ]
            ]
          ]
        ]
      ]
    ]

-- the escape of a control character writes its code
code-writes : (c : ℕ) → c < 32 → WritesNumber c (written_code c)
code-writes c low =
    let high_digit = digit_value-digit_char (c / 16) (omega arith) in
    let low_digit = digit_value-digit_char (c % 16) (omega arith) in
    (48, (48, (digit_char (c / 16), (digit_char (c % 16), (refl, (omega arith, omega arith, omega (arith, high_digit), omega (arith, low_digit)), rw (high_digit, low_digit) (omega arith))))))

-- a byte for which no letter stands is spelled by its code or by itself
code-or-plain : (c : ℕ) → c < 128 → letter_of c ≡ None → (t : Bool) → nat_lt c 32 ≡ t
    → SpellsChar c (if t then written_code c else c ∷ [])
code-or-plain c low none true e =
    inr (inr (inl (grind (arith, nat_tests), code-writes c (grind (arith, nat_tests)))))
code-or-plain c low none false e =
    inl (grind (arith, nat_tests), grind (arith, nat_tests), sym (encode_ascii c low))

-- what is written for an ASCII byte spells it
byte-spelled : (c : ℕ) → c < 128 → (letter : Option ℕ) → letter_of c ≡ letter
    → SpellsChar c (written_letter letter (if nat_lt c 32 then written_code c else c ∷ []))
byte-spelled c low (Some l) e = inr (inl (l, (refl, letter-escapes c l e)))
byte-spelled c low None e = code-or-plain c low e (nat_lt c 32) refl

-- ---- Other characters

-- a byte above ASCII is written as it is
wide-byte : (b : ℕ) → 128 ≤ b → written_byte b ≡ b ∷ []
wide-byte b wide =
    let none : letter_of b ≡ None = grind (arith, nat_tests) in
    let plain : nat_lt b 32 ≡ false = grind (arith, nat_tests) in
    ap (λ letter. written_letter letter (if nat_lt b 32 then written_code b else b ∷ [])) none
    ∙ ap (λ t. if t then written_code b else b ∷ []) plain

-- each byte is above ASCII
abbrev AreWide : List ℕ → Type 0
AreWide [] = ⊤
AreWide (b ∷ bs) = (128 ≤ b) × AreWide bs

-- such bytes are written as they are
wide-bytes : (bs : List ℕ) → AreWide bs → flat_map written_byte bs ≡ bs
wide-bytes [] h = refl
wide-bytes (b ∷ bs) h =
    ap (λ l. l ++ flat_map written_byte bs) (wide-byte b h.0) ∙ ap (λ l. b ∷ l) (wide-bytes bs h.1)

-- each byte of a character that is not ASCII is above ASCII
wide-each : (c : ℕ) → 128 ≤ c → AreWide (encode_utf8 c)
unfolding encode_utf8
wide-each c wide =
    let first : nat_lt c 128 ≡ false = grind (arith, nat_tests) in
    elim (leb_tells 2048 c) [
      | inr p ↦
          let second : nat_lt c 2048 ≡ true = grind (arith, nat_tests, p.1) in
          rw (first, second) (omega arith, (omega arith, tt))
      | inl p ↦
          let second : nat_lt c 2048 ≡ false = grind (arith, nat_tests, p.1) in
          elim (leb_tells 65536 c) [
            | inr q ↦
                let third : nat_lt c 65536 ≡ true = grind (arith, nat_tests, q.1) in
                rw (first, second, third) (omega arith, (omega arith, (omega arith, tt)))
            | inl q ↦
                let third : nat_lt c 65536 ≡ false = grind (arith, nat_tests, q.1) in
                rw (first, second, third) (omega arith, (omega arith, (omega arith, (omega arith, tt))))
          ]
    ]

-- ---- Strings

-- both parts of a conjunction
both : (a b : Bool) → (a && b) ≡ true → (a ≡ true) × (b ≡ true)
both true b h = (refl, h)
both false b h = absurd (cc h)

-- what is written for a character spells it
char-spelled : (c : ℕ) → IsScalar c → SpellsChar c (flat_map written_byte (encode_utf8 c))
char-spelled c scalar =
    elim (leb_tells 128 c) [
      | inl p ↦ inl (scalar, grind (arith, nat_tests, p.1), wide-bytes (encode_utf8 c) (wide-each c p.1))
      | inr p ↦
          subst (λ l. SpellsChar c (flat_map written_byte l)) (sym (encode_ascii c p.1))
          (subst (SpellsChar c) (sym (append-nil (written_byte c))) (byte-spelled c p.1 (letter_of c) refl))
    ]

-- the bytes that are written for several characters spell them
chars-spelled : (cs : List ℕ) → scalars cs ≡ true
    → SpellsChars cs (flat_map written_byte (encode_utf8_all cs))
chars-spelled [] h = refl
chars-spelled (c ∷ cs) h =
    let parts = both _ _ h in
    (flat_map written_byte (encode_utf8 c), (flat_map written_byte (encode_utf8_all cs), (flat_map-append written_byte (encode_utf8 c) (encode_utf8_all cs), char-spelled c parts.0, chars-spelled cs parts.1)))

-- the text that is written of a string begins with that string, before each continuation
pub string-stands : (v : String Global) (rest : List ℕ)
    → StringHere v (written_string (string_bytes v) ++ rest) rest
string-stands v rest =
    let text = IsUtf8-string_bytes v in
    let spells = subst (λ l. SpellsChars text.0 (flat_map written_byte l)) text.1.1 (chars-spelled text.0 text.1.0) in
    (text.0, ((flat_map written_byte (string_bytes v), (ap (λ l. 34 ∷ l) (append_assoc (flat_map written_byte (string_bytes v)) (34 ∷ []) rest), spells)), sym text.1.1))
