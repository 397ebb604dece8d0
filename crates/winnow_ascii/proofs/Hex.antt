-- For a text without a plus in front, `from_str_radix` returns what its hexadecimal digits write.
use Rattle.std.proofs.Common.{◌≡◌, ℕ, ◌*◌, ◌<◌, ◌≤◌, ◌^◌, inl, inr, true, false, List, [], ◌∷◌, length, None, Some, unwrap_or, Result, Ok, Err, sym, ap, ◌∙◌, subst, arith, rules}
use Rattle.std.specs.Str.Parse.{IsNumeral, digits_value, without_leading_plus, ParsesUnsigned}
use Rattle.std.specs.Result.{result_ok}
use Rattle.std.proofs.lemmas.Str.Parse.{without_leading_plus_none}
use Rattle.std.proofs.lemmas.Bool.Decides.{nat_tests, eqb_tells}
use Rattle.winnow_count.specs.Reading.{IsSomeExactly}
use Rattle.winnow_ascii.specs.HexUint.{ReadsHex, may_be_digits}

-- a text that may be digits has at most `nibbles` bytes
short : (nibbles : ℕ) (text : List ℕ) → may_be_digits nibbles text ≡ true → length text ≤ nibbles
short nibbles text h = grind (arith, nat_tests, h)

-- a text that may be digits has no plus that is left out
plain : (nibbles : ℕ) (text : List ℕ) → may_be_digits nibbles text ≡ true
    → without_leading_plus text ≡ text
plain nibbles text h = without_leading_plus_none text (grind (arith, nat_tests, h))

-- `from_str_radix` reads such a text exactly as its digits write
pub hex_reading : {E : Type 0} (nibbles : ℕ) (text : List ℕ) (r : Result ℕ E)
    → ParsesUnsigned (4 * nibbles) 16 text r → may_be_digits nibbles text ≡ true
    → IsSomeExactly (ReadsHex nibbles text) (result_ok r)
hex_reading nibbles text (Ok x) h may = λ v. (
  λ e. (let is : digits_value 16 (without_leading_plus text) ≡ v = sym h.1 ∙ ap (λ o. unwrap_or o x) e in
      let all : (IsNumeral 16 (without_leading_plus text)) × (digits_value 16 (without_leading_plus text) ≡ v) = (h.0.0, is) in
      let own = subst (λ t. IsNumeral 16 t × (digits_value 16 t ≡ v)) (plain nibbles text may) all in
      (own.0, own.1, short nibbles text may, subst (λ k. k < 2 ^ (4 * nibbles)) is h.0.1)),
  λ reads. ap Some (h.1 ∙ ap (digits_value 16) (plain nibbles text may) ∙ reads.1),
)
hex_reading nibbles text (Err e) h may = λ v. (
  λ e. absurd (search rules),
  λ reads. absurd (h (subst (λ t. IsNumeral 16 t × (digits_value 16 t < 2 ^ (4 * nibbles))) (sym (plain nibbles text may)) (reads.0, subst (λ k. k < 2 ^ (4 * nibbles)) (sym reads.1) reads.3))),
)

-- a text that may not be digits writes no number
no-digits : (nibbles n : ℕ) (text : List ℕ) → may_be_digits nibbles text ≡ false
    → ¬ (ReadsHex nibbles text n)
no-digits nibbles n [] may reads = omega (arith, reads.0.0)
no-digits nibbles n (c ∷ cs) may reads = elim (eqb_tells c 43) [
  | inl (_, is) ↦ (let digit = reads.0.1.0 in absurd (grind (arith, nat_tests, digit, is)))
  | inr (other, _) ↦ absurd (grind (arith, nat_tests, may, other, reads.2))
]

-- for a text that may not be digits, `None` is the right answer
pub hex_none : (nibbles : ℕ) (text : List ℕ) → may_be_digits nibbles text ≡ false
    → IsSomeExactly (ReadsHex nibbles text) None
hex_none nibbles text may = λ v. (λ e. absurd (search rules), λ reads. absurd (no-digits nibbles v text may reads))
