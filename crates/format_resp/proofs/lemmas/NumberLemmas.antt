-- Integers and lengths as std writes them.
use Rattle.std.proofs.Common.{◌≡◌, ◌≢◌, ℕ, zero, suc, ◌+◌, ◌*◌, ◌≤◌, ◌<◌, ◌^◌, inl, inr, true, false, List, [], ◌∷◌, length, take, get_or, Option, Some, None, ℤ, pos, negsuc, refl, sym, ap, ◌∙◌, subst, arith}
use Rattle.std.specs.Prelude.{decimal}
use Rattle.std.specs.Fmt.{signed_decimal}
use Rattle.std.specs.Char.{digit_value}
use Rattle.std.specs.Str.Parse.{AllDigits, digits_value}
use Rattle.std.proofs.lemmas.Int.Digits.{digits_more, digits_value_more}
use Rattle.std.proofs.lemmas.Bool.Decides.{nat_tests, eqb_tells}
use Rattle.std.proofs.lemmas.Option.{none-some, same_Some}
use Rattle.std.proofs.lemmas.List.{take_all}
use Rattle.std.proofs.lemmas.Str.Parse.{digit_from_value, digits_value-take-le, numerals_by_value, tells_digits}
use Rattle.std.proofs.lemmas.Fmt.{decimal_is_IsNumeral, decimal-digits_value, decimal_digit, first_decimal, length-decimal-le}
use Rattle.winnow_count.specs.Reading.{IsSomeExactly, WritesUpward}
use Rattle.format_lemmas.proofs.lemmas.ByteLemmas.{heads, tails}
use Rattle.format_resp.specs.Language.{AreInLine, IsText, no_length, IsInteger, IsLength}
use Rattle.format_resp.specs.Meanings.{most_digits}
use Rattle.format_resp.specs.Numbers.{is_plain, HasDigit, AreDigitsOf, IsNegative, IsPositive}

-- a plain text that writes a number is what std writes of it
plain-decimal : (text : List ℕ) (n : ℕ) → n < 2 ^ 64 → is_plain text ≡ true → WritesUpward text n
    → text ≡ decimal n
plain-decimal [] n small plain w = absurd (cc)
plain-decimal (c ∷ cs) n small plain (inl w) =
    let lead : get_or (c ∷ cs) 0 0 ≡ 48 → length (c ∷ cs) ≡ 1 = λ e. grind (arith, nat_tests, plain, e) in
    sym (decimal-digits_value (numerals_by_value _ tells_digits) (c ∷ cs) w.0.1 w.0.0 lead (subst (λ k. k < 2 ^ 64) (sym w.1) small)) ∙ ap decimal w.1
plain-decimal (c ∷ cs) n small plain (inr (ds, is, w)) = let e = heads c 43 cs ds is in absurd (grind (arith, nat_tests, plain, e))

-- what std writes of 0 is plain
zero-plain : (text : List ℕ) → 48 ∷ [] ≡ text → is_plain text ≡ true
zero-plain text e = subst (λ t. is_plain t ≡ true) e refl

-- what begins with another digit than 0 is plain
other-plain : (c : ℕ) (cs : List ℕ) → 48 < c → is_plain (c ∷ cs) ≡ true
other-plain c cs l = grind (arith, nat_tests, l)

-- what std writes of a number is plain
decimal-plain : (n : ℕ) (text : List ℕ) → n < 2 ^ 64 → decimal n ≡ text → is_plain text ≡ true
decimal-plain n [] small e = absurd (omega (arith, (decimal_is_IsNumeral n small).0.0, ap length e))
decimal-plain n (c ∷ cs) small e = elim (eqb_tells n 0) [
  | inl (_, nought) ↦ zero-plain (c ∷ cs) (sym (decimal_digit 0 (omega arith)) ∙ ap decimal (sym nought) ∙ e)
  | inr (_, other) ↦ other-plain c cs (subst (λ t. 48 < get_or t 0 0) e (first_decimal n (omega (arith, other)) small))
]

-- each byte of digits is a digit
digit-below : (ds : List ℕ) (i : ℕ) → AllDigits 10 ds → i < length ds
    → digit_value (get_or ds i 0) < 10
digit-below [] i h l = absurd (omega (arith, l))
digit-below (d ∷ ds) zero h l = h.0
digit-below (d ∷ ds) (suc i) h l = digit-below ds i h.1 (omega (arith, l))

-- after one digit more the digits so far write the number with that digit
pub digits-more : (text : List ℕ) (i number n : ℕ) (r : Option ℕ) → i < length text
    → AllDigits 10 (take i text) → number ≡ digits_value 10 (take i text)
    → IsSomeExactly (HasDigit number (get_or text i 0)) r → r ≡ Some n
    → AllDigits 10 (take (i + 1) text) × (n ≡ digits_value 10 (take (i + 1) text))
digits-more text i number n r l all is h some =
    let k = (h n).0 some in (
      digits_more 10 text i l all k.0,
      k.1.0 ∙ ap (λ m. m * 10 + digit_value (get_or text i 0)) is ∙ sym (digits_value_more 10 text i l),
    )

-- where no digit follows, or the number with it is too great, the text writes no number
pub digits-none : (text : List ℕ) (i number : ℕ) (r : Option ℕ) → i < length text
    → number ≡ digits_value 10 (take i text)
    → IsSomeExactly (HasDigit number (get_or text i 0)) r → r ≡ None
    → IsSomeExactly (AreDigitsOf text) None
digits-none text i number r l is h none = λ v. (
  λ e. absurd (none-some _ e),
  λ w. (let next = number * 10 + digit_value (get_or text i 0) in
      let more = ap (λ m. m * 10 + digit_value (get_or text i 0)) is ∙ sym (digits_value_more 10 text i l) in
      let small : next < 2 ^ 64 = omega (arith, more, digits_value-take-le 10 text (i + 1) (omega arith), w.1.0, w.1.1) in
      absurd (none-some _ (sym none ∙ (h next).1 (digit-below text i w.0 l, (refl, small))))),
)

-- where no byte is left, the digits are those of the text
pub digits-all : (text : List ℕ) (i number : ℕ) → length text ≤ i → number < 2 ^ 64
    → AllDigits 10 (take i text) → number ≡ digits_value 10 (take i text)
    → IsSomeExactly (AreDigitsOf text) (Some number)
digits-all text i number le small all is = λ v. (
  λ e. (let same = same_Some number v e in let whole = take_all i text le in
      (subst (AllDigits 10) whole all, (ap (digits_value 10) (sym whole) ∙ sym is ∙ same, subst (λ n. n < 2 ^ 64) same small))),
  λ w. ap Some (is ∙ ap (digits_value 10) (take_all i text le) ∙ w.1.0),
)

-- a plain text has a byte
plain-some : (text : List ℕ) → is_plain text ≡ true → 0 < length text
plain-some [] plain = absurd (cc)
plain-some (c ∷ cs) plain = omega arith

-- the number that the digits of a plain text write is the one that it writes as std does
pub number-digits : (text : List ℕ) (r : Option ℕ) → is_plain text ≡ true
    → IsSomeExactly (AreDigitsOf text) r
    → IsSomeExactly (λ n. (n < 2 ^ 64) × (text ≡ decimal n)) r
number-digits text r plain h = λ v. (
  λ e. (let k = (h v).0 e in (k.1.1, plain-decimal text v k.1.1 plain (inl ((plain-some text plain, k.0), k.1.0)))),
  λ w. (let d = decimal_is_IsNumeral v w.0 in
      (h v).1 (subst (AllDigits 10) (sym w.1) d.0.1, (subst (λ t. digits_value 10 t ≡ v) (sym w.1) d.1, w.0))),
)

-- a text that is not plain is what std writes of no number
pub number_none : (text : List ℕ) → is_plain text ≡ false
    → IsSomeExactly (λ n. (n < 2 ^ 64) × (text ≡ decimal n)) None
number_none text plain = λ v. (
  λ e. absurd (none-some _ e),
  λ w. (let f = sym (decimal-plain v text w.0 (sym w.1)) ∙ plain in absurd (cc)),
)

-- the first byte of what std writes of a number is no minus
pub no-minus : (n : ℕ) (ds : List ℕ) → n < 2 ^ 64 → 45 ∷ ds ≡ decimal n → ⊥
no-minus n ds small e = let d = digit_from_value 45 (subst (AllDigits 10) (sym e) (decimal_is_IsNumeral n small).0.1).0 in omega (arith, d.0)

-- an empty text is no integer
no-empty : (text : List ℕ) (v : ℤ) → length text ≡ 0 → IsInteger text v → ⊥
no-empty text (pos n) none h = omega (arith, (decimal_is_IsNumeral n (omega (arith, h.0))).0.0, ap length h.1, none)
no-empty text (negsuc n) none h = omega (arith, ap length h.1, none)

-- so none is read from it
pub integer_empty : (text : List ℕ) → length text ≡ 0 → IsSomeExactly (IsInteger text) None
integer_empty text none = λ v. (λ e. absurd (none-some _ e), λ h. absurd (no-empty text v none h))

-- where no number follows a minus, the text is no integer
no-negative : (text ds : List ℕ) (v : ℤ) → text ≡ 45 ∷ ds
    → IsSomeExactly (λ n. (n < 2 ^ 64) × (ds ≡ decimal n)) None → IsInteger text v → ⊥
no-negative text ds (pos n) is none h = no-minus n ds (omega (arith, h.0)) (sym is ∙ h.1)
no-negative text ds (negsuc n) is none h = none-some _ ((none (suc n)).1 (omega (arith, h.0), tails 45 45 ds (decimal (suc n)) (sym is ∙ h.1)))

-- so none is read from it
pub negative_none : (text ds : List ℕ) → text ≡ 45 ∷ ds
    → IsSomeExactly (λ n. (n < 2 ^ 64) × (ds ≡ decimal n)) None
    → IsSomeExactly (IsInteger text) None
negative_none text ds is none = λ v. (λ e. absurd (none-some _ e), λ h. absurd (no-negative text ds v is none h))

-- the negative of the number after a minus is the integer
is-negative : (text ds : List ℕ) (m : ℕ) (v : ℤ) → text ≡ 45 ∷ ds
    → IsSomeExactly (λ n. (n < 2 ^ 64) × (ds ≡ decimal n)) (Some m) → IsNegative m v
    → IsInteger text v
is-negative text ds m v is some (fits, (k, (e, f))) =
    (fits, is ∙ ap (λ t. 45 ∷ t) (((some m).0 refl).1 ∙ ap decimal f) ∙ ap signed_decimal (sym e))

-- the integer is the negative of that number
to-negative : (text ds : List ℕ) (m : ℕ) (v : ℤ) → text ≡ 45 ∷ ds
    → IsSomeExactly (λ n. (n < 2 ^ 64) × (ds ≡ decimal n)) (Some m) → IsInteger text v
    → IsNegative m v
to-negative text ds m (pos n) is some h = absurd (no-minus n ds (omega (arith, h.0)) (sym is ∙ h.1))
to-negative text ds m (negsuc n) is some h =
    (h.0, (n, (refl, same_Some _ _ ((some (suc n)).1 (omega (arith, h.0), tails 45 45 ds (decimal (suc n)) (sym is ∙ h.1))))))

-- so the integer that is read is that negative
pub negative_some : (text ds : List ℕ) (m : ℕ) (r : Option ℤ) → text ≡ 45 ∷ ds
    → IsSomeExactly (λ n. (n < 2 ^ 64) × (ds ≡ decimal n)) (Some m)
    → IsSomeExactly (IsNegative m) r → IsSomeExactly (IsInteger text) r
negative_some text ds m r is some h = λ v. (λ e. is-negative text ds m v is some ((h v).0 e), λ i. (h v).1 (to-negative text ds m v is some i))

-- the number that such a text writes is the integer
is-positive : (text : List ℕ) (m : ℕ) (v : ℤ)
    → IsSomeExactly (λ n. (n < 2 ^ 64) × (text ≡ decimal n)) (Some m) → IsPositive m v
    → IsInteger text v
is-positive text m v some h = (h.0, ((some m).0 refl).1 ∙ ap signed_decimal (sym h.1))

-- the integer is that number
to-positive : (text : List ℕ) (c : ℕ) (ds : List ℕ) (m : ℕ) (v : ℤ) → text ≡ c ∷ ds → c ≢ 45
    → IsSomeExactly (λ n. (n < 2 ^ 64) × (text ≡ decimal n)) (Some m) → IsInteger text v
    → IsPositive m v
to-positive text c ds m (pos n) is other some h = (h.0, ap pos (sym (same_Some _ _ ((some n).1 (omega (arith, h.0), h.1)))))
to-positive text c ds m (negsuc n) is other some h = absurd (other (heads c 45 ds (decimal (suc n)) (sym is ∙ h.1)))

-- so the integer that is read is that number
pub positive_some : (text : List ℕ) (c : ℕ) (ds : List ℕ) (m : ℕ) (r : Option ℤ) → text ≡ c ∷ ds
    → c ≢ 45 → IsSomeExactly (λ n. (n < 2 ^ 64) × (text ≡ decimal n)) (Some m)
    → IsSomeExactly (IsPositive m) r → IsSomeExactly (IsInteger text) r
positive_some text c ds m r is other some h = λ v. (λ e. is-positive text m v some ((h v).0 e), λ i. (h v).1 (to-positive text c ds m v is other some i))

-- the text -1 is the length of nothing, and no other length
pub length_nothing : (greatest : ℕ) (text : List ℕ) → text ≡ no_length
    → IsSomeExactly (IsLength greatest text) (Some None)
length_nothing greatest text is (Some n) = (λ e. absurd (none-some _ (same_Some _ _ e)), λ h. absurd (no-minus n (49 ∷ []) h.1 (sym is ∙ h.2)))
length_nothing greatest text is None = (λ e. is, λ h. refl)

-- ---- Texts of lines

-- digits can stand in a line
digits-in_line : (ds : List ℕ) → AllDigits 10 ds → AreInLine ds
digits-in_line [] h = tt
digits-in_line (c ∷ cs) h = let d = digit_from_value c h.0 in (grind (arith, nat_tests, d.0, d.1), digits-in_line cs h.1)

-- a number of 64 bits is the text of a line
pub decimal-line : (n : ℕ) (text : List ℕ) → n < 2 ^ 64 → text ≡ decimal n → IsText most_digits text
decimal-line n text small e = (
  subst AreInLine (sym e) (digits-in_line (decimal n) (decimal_is_IsNumeral n small).0.1),
  omega (arith, ap length e, length-decimal-le 20 n (omega arith) (omega (arith, small)) small),
)

-- -1 is the text of a line
pub no_length-line : IsText most_digits no_length
no_length-line = ((refl, (refl, tt)), omega arith)

-- an integer of 64 bits is the text of a line
pub integer-line : (text : List ℕ) (n : ℤ) → IsInteger text n → IsText most_digits text
integer-line text (pos n) h = decimal-line n text (omega (arith, h.0)) h.1
integer-line text (negsuc n) h =
    let k = decimal-line (suc n) (decimal (suc n)) (omega (arith, h.0)) refl in (
      subst AreInLine (sym h.1) (refl, k.0),
      omega (arith, ap length h.1, length-decimal-le 20 (suc n) (omega arith) (omega (arith, h.0)) (omega (arith, h.0))),
    )

-- a length is the text of a line
pub length-line : (greatest : ℕ) (text : List ℕ) (n : Option ℕ) → IsLength greatest text n
    → IsText most_digits text
length-line greatest text None h = subst (IsText most_digits) (sym h) no_length-line
length-line greatest text (Some n) h = decimal-line n text h.1 h.2
