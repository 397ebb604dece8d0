-- Lemmas on the bytes before the first byte that passes a test.
use Rattle.std.specs.Prelude.{Bool, not, zero, suc, ◌-◌, drop, take, Some, None, slice_index}
use Rattle.std.proofs.Common.{◌≡◌, ℕ, ◌+◌, ◌<◌, true, false, List, [], ◌∷◌, length, refl, ap, sym, ◌∙◌, subst, inl, inr, arith, length-drop, drop_of_length-le}
use Rattle.std.proofs.lemmas.List.{take_all, drop_more}
use Rattle.std.proofs.lemmas.Bool.Decides.{nat_tests, eqb_tells}
use Rattle.memchr.specs.Find.{Nowhere, Passes, IsFirstByte, is_byte}
use Rattle.format_lemmas.specs.Bytes.{Each, Starts}
use Rattle.format_csv.specs.Fields.{is_special, is_plain}
use Rattle.format_csv.specs.Meanings.{is_other}

module _ (test other : ℕ → Bool) (turned : (b : ℕ) → ¬ (test b ≡ true) → other b ≡ true) where
  -- if no byte passes the test, each passes the opposite test
  none-each : (xs : List ℕ) → Nowhere (Passes test xs) 0 (length xs) → Each other xs
  none-each [] h = tt
  none-each (x ∷ xs) h =
      (turned x (h 0 (omega arith) (omega arith)), none-each xs (λ k l m p. h (suc k) (omega arith) (omega arith) p))

  -- each byte before the first that passes the test passes the opposite test
  first-each : (xs : List ℕ) (n : ℕ) → n < length xs → Nowhere (Passes test xs) 0 n
      → Each other (take n xs)
  first-each [] n l h = absurd (omega (arith, l))
  first-each (x ∷ xs) zero l h = tt
  first-each (x ∷ xs) (suc n) l h =
      (turned x (h 0 (omega arith) (omega arith)), first-each xs n (omega arith) (λ k i m p. h (suc k) (omega arith) (omega arith) p))

-- the bytes from an index on begin with the byte at this index
pub from-index : (xs : List ℕ) (n : ℕ) → n < length xs
    → drop n xs ≡ slice_index xs n ∷ drop (n + 1) xs
from-index xs n l = drop_more xs n 0 l

-- a byte that is not a quote satisfies `is_other`
turn-quote : (b : ℕ) → ¬ (is_byte 34 b ≡ true) → is_other b ≡ true
turn-quote b h = grind (arith, nat_tests, h)

-- a byte that equals 34 is a quote
quote-is : (b : ℕ) → is_byte 34 b ≡ true → b ≡ 34
quote-is b h = grind (arith, nat_tests, h)

-- a byte that is not special is plain
turn-special : (b : Bool) → ¬ (b ≡ true) → not b ≡ true
turn-special true h = absurd (h refl)
turn-special false h = refl

-- if no quote is found, no byte is a quote
pub no-quote : (xs : List ℕ) → IsFirstByte (is_byte 34) xs None → Each is_other xs
no-quote xs h = none-each (is_byte 34) is_other turn-quote xs h

-- no byte before the first quote is a quote
pub before-quote : (xs : List ℕ) (n : ℕ) → IsFirstByte (is_byte 34) xs (Some n)
    → Each is_other (take n xs)
before-quote xs n h = first-each (is_byte 34) is_other turn-quote xs n h.0.high h.0.before

-- a quote stands at the index of the first quote
pub at-quote : (xs : List ℕ) (n : ℕ) → IsFirstByte (is_byte 34) xs (Some n)
    → drop n xs ≡ 34 ∷ drop (n + 1) xs
at-quote xs n h = from-index xs n h.0.high ∙ ap (λ b. b ∷ drop (n + 1) xs) (quote-is (slice_index xs n) h.1)

-- if no special byte is found, no byte is special
pub no-special : (xs : List ℕ) → IsFirstByte is_special xs None → Each is_plain xs
no-special xs h = none-each is_special is_plain (λ b. turn-special (is_special b)) xs h

-- no byte before the first special byte is special
pub before-special : (xs : List ℕ) (n : ℕ) → IsFirstByte is_special xs (Some n)
    → Each is_plain (take n xs)
before-special xs n h = first-each is_special is_plain (λ b. turn-special (is_special b)) xs n h.0.high h.0.before

-- a special byte is not plain
special-not : (b : Bool) → b ≡ true → ¬ (not b ≡ true)
special-not true e h = let x : false ≡ true = h in cc
special-not false e h = let x : false ≡ true = e in cc

-- the bytes from the first special byte on do not start with a plain byte
pub at-special : (xs : List ℕ) (n : ℕ) → IsFirstByte is_special xs (Some n)
    → ¬ (Starts is_plain (drop n xs))
at-special xs n h =
    subst (λ ys. ¬ (Starts is_plain ys)) (sym (from-index xs n h.0.high)) (special-not (is_special (slice_index xs n)) h.1)

-- the slice from an index to the end has all bytes from the index on
pub slice-from : (xs : List ℕ) (n : ℕ) → take (length xs - n) (drop n xs) ≡ drop n xs
slice-from xs n = take_all (length xs - n) (drop n xs) (omega (arith, length-drop n xs))

-- if no byte is special, all bytes are plain
pub all-plain : (xs : List ℕ) → IsFirstByte is_special xs None → Each is_plain (take (length xs) xs)
all-plain xs h = subst (Each is_plain) (sym (take_all (length xs) xs (omega arith))) (no-special xs h)

-- after all bytes nothing remains, which starts with no plain byte
pub none-plain : (xs : List ℕ) → ¬ (Starts is_plain (drop (length xs) xs))
none-plain xs h = subst (Starts is_plain) (drop_of_length-le xs (omega arith)) h

-- if none of the first bytes and not the next byte is special, none up to the next is
pub nowhere-more : (P : ℕ → Type 0) (n : ℕ) → Nowhere P 0 n → ¬ (P n) → Nowhere P 0 (n + 1)
nowhere-more P n h m k i l p = elim (eqb_tells k n) [
  | inl t ↦ m (subst P t.1 p)
  | inr t ↦ h k i (omega (arith, l, t.1)) p
]
