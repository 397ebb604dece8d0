-- The parts of a number, and what may follow each.
use Rattle.std.proofs.Common.{◌≡◌, ℕ, ◌==◌, Bool, true, false, not, cond, List, [], ◌∷◌, ◌++◌, inl, inr, ap, sym, ◌∙◌, subst, refl, arith}
use Rattle.std.specs.Char.{is_ascii_digit}
use Rattle.std.proofs.lemmas.Bool.{eqb-true, eqb-false}
use Rattle.std.proofs.lemmas.Bool.Decides.{nat_tests}
use Rattle.format_lemmas.specs.Bytes.{Each}
use Rattle.format_lemmas.proofs.lemmas.ByteLemmas.{heads, tails}
use Rattle.format_json_scalars.specs.Numbers.{AreDigits, IsWhole, IsFraction, is_e, is_sign, IsPower, IsExponent, IsNumber, BeginsNumber, Tells}
use Rattle.format_json_scalars.specs.Parts.{whole_part, letter_part, tail_part, power_part, next_part, run, is_last, is_wrong}
use Rattle.format_json_scalars.specs.declared.parts.Part.{Part}
use Rattle.format_json_scalars.specs.declared.parts.Part.TheVariants.{Begin, Minus, Nought, Whole, Point, Fraction, Letter, Sign, Exponent, Wrong}

-- ---- What may follow a part

-- a fraction and an exponent, each of which may be missing
abbrev IsTail : List ℕ → Type 0
IsTail bytes = (f : List ℕ) × ((e : List ℕ) × ((bytes ≡ f ++ e) × IsFraction f × IsExponent e))

-- a whole part and a tail
abbrev IsUnsigned : List ℕ → Type 0
IsUnsigned bytes = (w : List ℕ) × ((t : List ℕ) × ((bytes ≡ w ++ t) × IsWhole w × IsTail t))

-- digits, and then bytes of which a fact holds
abbrev Leads : (List ℕ → Type 0) → (List ℕ → Type 0) → List ℕ → Type 0
Leads Digits After bytes = (ds : List ℕ) × ((t : List ℕ) × ((bytes ≡ ds ++ t) × Digits ds × After t))

-- the bytes complete a number after a part
abbrev Follows : Part → List ℕ → Type 0
Follows Begin bs = IsNumber bs
Follows Minus bs = IsUnsigned bs
Follows Nought bs = IsTail bs
Follows Whole bs = Leads (Each is_ascii_digit) IsTail bs
Follows Point bs = Leads AreDigits IsExponent bs
Follows Fraction bs = Leads (Each is_ascii_digit) IsExponent bs
Follows Letter bs = IsPower bs
Follows Sign bs = AreDigits bs
Follows Exponent bs = Each is_ascii_digit bs
Follows Wrong bs = ⊥

-- ---- A digit of a power

-- the cases of `power-on`
power-step : (d : Bool) (b : ℕ) (bs : List ℕ) → is_ascii_digit b ≡ d
    → Follows (cond d Exponent Wrong) bs → AreDigits (b ∷ bs)
power-step true b bs e h = (e, h)
power-step false b bs e h = absurd h

-- what follows the part that a byte makes completes a power with the byte
power-on : (b : ℕ) (bs : List ℕ) → Follows (power_part b) bs → AreDigits (b ∷ bs)
power-on b bs h = power-step (is_ascii_digit b) b bs refl h

-- the cases of `power-back`
power-unstep : (d : Bool) (b : ℕ) (bs : List ℕ) → is_ascii_digit b ≡ d → AreDigits (b ∷ bs)
    → Follows (cond d Exponent Wrong) bs
power-unstep true b bs e h = h.1
power-unstep false b bs e h = absurd (let f = sym e ∙ h.0 in cc)

-- the converse of `power-on`
power-back : (b : ℕ) (bs : List ℕ) → AreDigits (b ∷ bs) → Follows (power_part b) bs
power-back b bs h = power-unstep (is_ascii_digit b) b bs refl h

-- ---- The letter of an exponent

-- the cases of `letter-on`
letter-step : (l : Bool) (b : ℕ) (bs : List ℕ) → is_e b ≡ l → Follows (cond l Letter Wrong) bs
    → IsExponent (b ∷ bs)
letter-step true b bs e h = (e, h)
letter-step false b bs e h = absurd h

-- what follows the part that a byte makes completes an exponent with the byte
letter-on : (b : ℕ) (bs : List ℕ) → Follows (letter_part b) bs → IsExponent (b ∷ bs)
letter-on b bs h = letter-step (is_e b) b bs refl h

-- the cases of `letter-back`
letter-unstep : (l : Bool) (b : ℕ) (bs : List ℕ) → is_e b ≡ l → IsExponent (b ∷ bs)
    → Follows (cond l Letter Wrong) bs
letter-unstep true b bs e h = h.1
letter-unstep false b bs e h = absurd (let f = sym e ∙ h.0 in cc)

-- the converse of `letter-on`
letter-back : (b : ℕ) (bs : List ℕ) → IsExponent (b ∷ bs) → Follows (letter_part b) bs
letter-back b bs h = letter-unstep (is_e b) b bs refl h

-- the letter of an exponent is no digit
e-no-digit : (b : ℕ) → is_e b ≡ true → is_ascii_digit b ≡ true → ⊥
e-no-digit b e d = grind (arith, nat_tests, e, d)

-- ---- A tail

-- the cases of `tail-on`
tail-step : (p : Bool) (b : ℕ) (bs : List ℕ) → (46 == b) ≡ p
    → Follows (cond p Point (letter_part b)) bs → IsTail (b ∷ bs)
tail-step true b bs e (ds, (t, (split, digits, ex))) =
    (b ∷ ds, (t, (ap (λ l. b ∷ l) split, inr (ds, (ap (λ x. x ∷ ds) (sym (eqb-true 46 b e)), digits)), ex)))
tail-step false b bs e h = ([], (b ∷ bs, (refl, inl refl, letter-on b bs h)))

-- what follows the part that a byte makes completes a tail with the byte
tail-on : (b : ℕ) (bs : List ℕ) → Follows (tail_part b) bs → IsTail (b ∷ bs)
tail-on b bs h = tail-step (46 == b) b bs refl h

-- the cases of `tail-back`
tail-unstep : (p : Bool) (b : ℕ) (bs : List ℕ) → (46 == b) ≡ p → IsTail (b ∷ bs)
    → Follows (cond p Point (letter_part b)) bs
tail-unstep true b bs e (f, (t, (split, inl none, ex))) =
    let is : IsExponent (b ∷ bs) = subst IsExponent (sym (split ∙ ap (λ x. x ++ t) none)) ex in
    absurd (grind (arith, nat_tests, eqb-true 46 b e, is.0))
tail-unstep true b bs e (f, (t, (split, inr (ds, (is, digits)), ex))) =
    (ds, (t, (tails b 46 bs (ds ++ t) (split ∙ ap (λ x. x ++ t) is), digits, ex)))
tail-unstep false b bs e (f, (t, (split, inl none, ex))) =
    letter-back b bs (subst IsExponent (sym (split ∙ ap (λ x. x ++ t) none)) ex)
tail-unstep false b bs e (f, (t, (split, inr (ds, (is, digits)), ex))) =
    absurd (eqb-false 46 b e (sym (heads b 46 bs (ds ++ t) (split ∙ ap (λ x. x ++ t) is))))

-- the converse of `tail-on`
tail-back : (b : ℕ) (bs : List ℕ) → IsTail (b ∷ bs) → Follows (tail_part b) bs
tail-back b bs h = tail-unstep (46 == b) b bs refl h

-- a tail does not begin with a digit
tail-no-digit : (b : ℕ) (bs : List ℕ) → IsTail (b ∷ bs) → is_ascii_digit b ≡ true → ⊥
tail-no-digit b bs (f, (t, (split, inl none, ex))) d =
    let is : IsExponent (b ∷ bs) = subst IsExponent (sym (split ∙ ap (λ x. x ++ t) none)) ex in e-no-digit b is.0 d
tail-no-digit b bs (f, (t, (split, inr (ds, (is, digits)), ex))) d =
    let point : b ≡ 46 = heads b 46 bs (ds ++ t) (split ∙ ap (λ x. x ++ t) is) in
    grind (arith, nat_tests, point, d)

-- ---- A whole part

-- the cases of `whole-on`
whole-step : (z d : Bool) (b : ℕ) (bs : List ℕ) → (48 == b) ≡ z → is_ascii_digit b ≡ d
    → Follows (cond z Nought (cond d Whole Wrong)) bs → IsUnsigned (b ∷ bs)
whole-step true d b bs e f h = (b ∷ [], (bs, (refl, inl (sym (eqb-true 48 b e), refl), h)))
whole-step false true b bs e f (ds, (t, (split, all, tail))) =
    let other : 48 ≡ b → ⊥ = eqb-false 48 b e in
    (b ∷ ds, (t, (ap (λ l. b ∷ l) split, inr (grind (arith, nat_tests, other, f), all), tail)))
whole-step false false b bs e f h = absurd h

-- what follows the part that a byte makes completes a number without its sign, with the byte
whole-on : (b : ℕ) (bs : List ℕ) → Follows (whole_part b) bs → IsUnsigned (b ∷ bs)
whole-on b bs h = whole-step (48 == b) (is_ascii_digit b) b bs refl refl h

-- the cases of `whole-back`
whole-unstep : (z d : Bool) (b : ℕ) (bs : List ℕ) → (48 == b) ≡ z → is_ascii_digit b ≡ d
    → IsUnsigned (b ∷ bs) → Follows (cond z Nought (cond d Whole Wrong)) bs
whole-unstep z d b bs e f ([], (t, (split, is, tail))) = absurd is
whole-unstep true d b bs e f (c ∷ w, (t, (split, inl (zero, none), tail))) =
    subst IsTail (sym (tails b c bs (w ++ t) split ∙ ap (λ x. x ++ t) none)) tail
whole-unstep true d b bs e f (c ∷ w, (t, (split, inr (digit, all), tail))) =
    absurd (grind (arith, nat_tests, eqb-true 48 b e, heads b c bs (w ++ t) split, digit))
whole-unstep false d b bs e f (c ∷ w, (t, (split, inl (zero, none), tail))) =
    absurd (eqb-false 48 b e (sym (heads b c bs (w ++ t) split ∙ zero)))
whole-unstep false true b bs e f (c ∷ w, (t, (split, inr (digit, all), tail))) = (w, (t, (tails b c bs (w ++ t) split, all, tail)))
whole-unstep false false b bs e f (c ∷ w, (t, (split, inr (digit, all), tail))) =
    absurd (grind (arith, nat_tests, f, heads b c bs (w ++ t) split, digit))

-- the converse of `whole-on`
whole-back : (b : ℕ) (bs : List ℕ) → IsUnsigned (b ∷ bs) → Follows (whole_part b) bs
whole-back b bs h = whole-unstep (48 == b) (is_ascii_digit b) b bs refl refl h

-- a number without its sign does not begin with a minus
unsigned-no-minus : (b : ℕ) (bs : List ℕ) → IsUnsigned (b ∷ bs) → 45 ≡ b → ⊥
unsigned-no-minus b bs ([], (t, (split, is, tail))) e = is
unsigned-no-minus b bs (c ∷ w, (t, (split, inl (zero, none), tail))) e = omega (arith, zero, e, heads b c bs (w ++ t) split)
unsigned-no-minus b bs (c ∷ w, (t, (split, inr (digit, all), tail))) e =
    grind (arith, nat_tests, digit, e, heads b c bs (w ++ t) split)

-- ---- More digits

module _ (After : List ℕ → Type 0) (after : ℕ → Part) (on : (b : ℕ) (bs : List ℕ) → Follows (after b) bs → After (b ∷ bs)) (back : (b : ℕ) (bs : List ℕ) → After (b ∷ bs) → Follows (after b) bs) (no-digit : (b : ℕ) (bs : List ℕ) → After (b ∷ bs) → is_ascii_digit b ≡ true → ⊥) where
  -- one more digit before digits
  one-more : (b : ℕ) (bs : List ℕ) → is_ascii_digit b ≡ true → Leads (Each is_ascii_digit) After bs
      → Leads (Each is_ascii_digit) After (b ∷ bs)
  one-more b bs e (ds, (t, (split, all, rest))) = (b ∷ ds, (t, (ap (λ l. b ∷ l) split, (e, all), rest)))

  -- no digit before what follows digits
  no-more : (b : ℕ) (bs : List ℕ) → Follows (after b) bs
      → Leads (Each is_ascii_digit) After (b ∷ bs)
  no-more b bs h = ([], (b ∷ bs, (refl, tt, on b bs h)))

  -- the digits after a first one
  one-less : (b : ℕ) (bs : List ℕ) → is_ascii_digit b ≡ true
      → Leads (Each is_ascii_digit) After (b ∷ bs) → Leads (Each is_ascii_digit) After bs
  one-less b bs e ([], (t, (split, all, rest))) = absurd (no-digit b bs (subst After (sym split) rest) e)
  one-less b bs e (c ∷ ds, (t, (split, all, rest))) = (ds, (t, (tails b c bs (ds ++ t) split, all.1, rest)))

  -- what follows digits, where no digit stands
  none-more : (b : ℕ) (bs : List ℕ) → is_ascii_digit b ≡ false
      → Leads (Each is_ascii_digit) After (b ∷ bs) → Follows (after b) bs
  none-more b bs e ([], (t, (split, all, rest))) = back b bs (subst After (sym split) rest)
  none-more b bs e (c ∷ ds, (t, (split, all, rest))) =
      absurd (let f = sym e ∙ ap is_ascii_digit (heads b c bs (ds ++ t) split) ∙ all.0 in cc)

-- an exponent does not begin with a digit
exponent-no-digit : (b : ℕ) (bs : List ℕ) → IsExponent (b ∷ bs) → is_ascii_digit b ≡ true → ⊥
exponent-no-digit b bs h d = e-no-digit b h.0 d

-- ---- One byte

-- the cases of `step-on` before the first byte
begin-step : (m : Bool) (b : ℕ) (bs : List ℕ) → (45 == b) ≡ m
    → Follows (cond m Minus (whole_part b)) bs → IsNumber (b ∷ bs)
begin-step true b bs e (w, (t, (split, is, (f, (x, (parts, fraction, exponent)))))) = (
  b ∷ [],
  (
    w,
    (
      f,
      (
        x,
        (
          ap (λ l. b ∷ l) (split ∙ ap (λ l. w ++ l) parts),
          inr (ap (λ c. c ∷ []) (sym (eqb-true 45 b e))),
          is,
          fraction,
          exponent,
        ),
      ),
    ),
  ),
)
begin-step false b bs e h =
    let k = whole-on b bs h in
    let tail = k.1.1.2 in
    ([], (k.0, (tail.0, (tail.1.0, (k.1.1.0 ∙ ap (λ l. k.0 ++ l) tail.1.1.0, inl refl, k.1.1.1, tail.1.1.1, tail.1.1.2)))))

-- the cases of `step-back` before the first byte
begin-unstep : (m : Bool) (b : ℕ) (bs : List ℕ) → (45 == b) ≡ m → IsNumber (b ∷ bs)
    → Follows (cond m Minus (whole_part b)) bs
begin-unstep true b bs e (n, (w, (f, (x, (split, inl none, is, fraction, exponent))))) =
    absurd (unsigned-no-minus b bs (w, (f ++ x, (split ∙ ap (λ l. l ++ (w ++ (f ++ x))) none, is, (f, (x, (refl, fraction, exponent)))))) (eqb-true 45 b e))
begin-unstep true b bs e (n, (w, (f, (x, (split, inr minus, is, fraction, exponent))))) =
    (w, (f ++ x, (tails b 45 bs (w ++ (f ++ x)) (split ∙ ap (λ l. l ++ (w ++ (f ++ x))) minus), is, (f, (x, (refl, fraction, exponent))))))
begin-unstep false b bs e (n, (w, (f, (x, (split, inl none, is, fraction, exponent))))) =
    whole-back b bs (w, (f ++ x, (split ∙ ap (λ l. l ++ (w ++ (f ++ x))) none, is, (f, (x, (refl, fraction, exponent))))))
begin-unstep false b bs e (n, (w, (f, (x, (split, inr minus, is, fraction, exponent))))) =
    absurd (eqb-false 45 b e (sym (heads b 45 bs (w ++ (f ++ x)) (split ∙ ap (λ l. l ++ (w ++ (f ++ x))) minus))))

-- the cases of `step-on` after a digit of a whole part
digit-step : (d : Bool) (b : ℕ) (bs : List ℕ) → is_ascii_digit b ≡ d
    → Follows (cond d Whole (tail_part b)) bs → Follows Whole (b ∷ bs)
digit-step true b bs e h = one-more IsTail tail_part tail-on tail-back tail-no-digit b bs e h
digit-step false b bs e h = no-more IsTail tail_part tail-on tail-back tail-no-digit b bs h

-- the cases of `step-back` after a digit of a whole part
digit-unstep : (d : Bool) (b : ℕ) (bs : List ℕ) → is_ascii_digit b ≡ d → Follows Whole (b ∷ bs)
    → Follows (cond d Whole (tail_part b)) bs
digit-unstep true b bs e h = one-less IsTail tail_part tail-on tail-back tail-no-digit b bs e h
digit-unstep false b bs e h = none-more IsTail tail_part tail-on tail-back tail-no-digit b bs e h

-- the cases of `step-on` after a point
point-step : (d : Bool) (b : ℕ) (bs : List ℕ) → is_ascii_digit b ≡ d
    → Follows (cond d Fraction Wrong) bs → Follows Point (b ∷ bs)
point-step true b bs e (ds, (t, (split, all, rest))) = (b ∷ ds, (t, (ap (λ l. b ∷ l) split, (e, all), rest)))
point-step false b bs e h = absurd h

-- the cases of `step-back` after a point
point-unstep : (d : Bool) (b : ℕ) (bs : List ℕ) → is_ascii_digit b ≡ d → Follows Point (b ∷ bs)
    → Follows (cond d Fraction Wrong) bs
point-unstep d b bs e ([], (t, (split, all, rest))) = absurd all
point-unstep true b bs e (c ∷ ds, (t, (split, all, rest))) = (ds, (t, (tails b c bs (ds ++ t) split, all.1, rest)))
point-unstep false b bs e (c ∷ ds, (t, (split, all, rest))) =
    absurd (let f = sym e ∙ ap is_ascii_digit (heads b c bs (ds ++ t) split) ∙ all.0 in cc)

-- the cases of `step-on` after a digit of a fraction
fraction-step : (d : Bool) (b : ℕ) (bs : List ℕ) → is_ascii_digit b ≡ d
    → Follows (cond d Fraction (letter_part b)) bs → Follows Fraction (b ∷ bs)
fraction-step true b bs e h = one-more IsExponent letter_part letter-on letter-back exponent-no-digit b bs e h
fraction-step false b bs e h = no-more IsExponent letter_part letter-on letter-back exponent-no-digit b bs h

-- the cases of `step-back` after a digit of a fraction
fraction-unstep : (d : Bool) (b : ℕ) (bs : List ℕ) → is_ascii_digit b ≡ d
    → Follows Fraction (b ∷ bs) → Follows (cond d Fraction (letter_part b)) bs
fraction-unstep true b bs e h = one-less IsExponent letter_part letter-on letter-back exponent-no-digit b bs e h
fraction-unstep false b bs e h = none-more IsExponent letter_part letter-on letter-back exponent-no-digit b bs e h

-- the cases of `step-on` after the letter of an exponent
sign-step : (s : Bool) (b : ℕ) (bs : List ℕ) → is_sign b ≡ s
    → Follows (cond s Sign (power_part b)) bs → IsPower (b ∷ bs)
sign-step true b bs e h = inl (e, h)
sign-step false b bs e h = inr (power-on b bs h)

-- the cases of `step-back` after the letter of an exponent
sign-unstep : (s : Bool) (b : ℕ) (bs : List ℕ) → is_sign b ≡ s → IsPower (b ∷ bs)
    → Follows (cond s Sign (power_part b)) bs
sign-unstep true b bs e (inl h) = h.1
sign-unstep true b bs e (inr h) = absurd (grind (arith, nat_tests, e, h.0))
sign-unstep false b bs e (inl h) = absurd (let f = sym e ∙ h.0 in cc)
sign-unstep false b bs e (inr h) = power-back b bs h

-- what follows the part that a byte makes follows the part before it, with the byte
step-on : (p : Part) (b : ℕ) (bs : List ℕ) → Follows (next_part p b) bs → Follows p (b ∷ bs)
step-on Begin b bs h = begin-step (45 == b) b bs refl h
step-on Minus b bs h = whole-on b bs h
step-on Nought b bs h = tail-on b bs h
step-on Whole b bs h = digit-step (is_ascii_digit b) b bs refl h
step-on Point b bs h = point-step (is_ascii_digit b) b bs refl h
step-on Fraction b bs h = fraction-step (is_ascii_digit b) b bs refl h
step-on Letter b bs h = sign-step (is_sign b) b bs refl h
step-on Sign b bs h = power-on b bs h
step-on Exponent b bs h = power-on b bs h
step-on Wrong b bs h = h

-- the converse of `step-on`
step-back : (p : Part) (b : ℕ) (bs : List ℕ) → Follows p (b ∷ bs) → Follows (next_part p b) bs
step-back Begin b bs h = begin-unstep (45 == b) b bs refl h
step-back Minus b bs h = whole-back b bs h
step-back Nought b bs h = tail-back b bs h
step-back Whole b bs h = digit-unstep (is_ascii_digit b) b bs refl h
step-back Point b bs h = point-unstep (is_ascii_digit b) b bs refl h
step-back Fraction b bs h = fraction-unstep (is_ascii_digit b) b bs refl h
step-back Letter b bs h = sign-unstep (is_sign b) b bs refl h
step-back Sign b bs h = power-back b bs h
step-back Exponent b bs h = power-back b bs h
step-back Wrong b bs h = h

-- ---- The end

-- nothing follows a last part
last-on : (p : Part) → is_last p ≡ true → Follows p []
last-on Begin e = absurd (cc)
last-on Minus e = absurd (cc)
last-on Nought e = ([], ([], (refl, inl refl, tt)))
last-on Whole e = ([], ([], (refl, tt, ([], ([], (refl, inl refl, tt))))))
last-on Point e = absurd (cc)
last-on Fraction e = ([], ([], (refl, tt, tt)))
last-on Letter e = absurd (cc)
last-on Sign e = absurd (cc)
last-on Exponent e = tt
last-on Wrong e = absurd (cc)

-- a list with an element in it is not empty
not-empty : (xs ys : List ℕ) (y : ℕ) → [] ≡ xs ++ y ∷ ys → ⊥
not-empty [] ys y e = cc
not-empty (x ∷ xs) ys y e = cc

-- the converse of `last-on`
last-back : (p : Part) → Follows p [] → is_last p ≡ true
last-back Begin (n, ([], (f, (x, (split, minus, is, rest, more))))) = absurd is
last-back Begin (n, (c ∷ w, (f, (x, (split, minus, is, rest, more))))) = absurd (not-empty n (w ++ (f ++ x)) c split)
last-back Minus ([], (t, (split, is, tail))) = absurd is
last-back Minus (c ∷ w, (t, (split, is, tail))) = absurd (not-empty [] (w ++ t) c split)
last-back Nought h = refl
last-back Whole h = refl
last-back Point ([], (t, (split, is, rest))) = absurd is
last-back Point (c ∷ ds, (t, (split, is, rest))) = absurd (not-empty [] (ds ++ t) c split)
last-back Fraction h = refl
last-back Letter h = absurd h
last-back Sign h = absurd h
last-back Exponent h = refl
last-back Wrong h = absurd h

-- ---- All bytes

-- bytes whose last part may be the last follow the part before them
run-on : (p : Part) (bs : List ℕ) → is_last (run p bs) ≡ true → Follows p bs
run-on p [] e = last-on p e
run-on p (b ∷ bs) e = step-on p b bs (run-on (next_part p b) bs e)

-- the converse of `run-on`
run-back : (p : Part) (bs : List ℕ) → Follows p bs → is_last (run p bs) ≡ true
run-back p [] h = last-back p h
run-back p (b ∷ bs) h = run-back (next_part p b) bs (step-back p b bs h)

-- the last part says whether the bytes are a number
pub run-tells : (bs : List ℕ) (answer : Bool) → answer ≡ is_last (run Begin bs)
    → Tells answer (IsNumber bs)
run-tells bs true e = run-on Begin bs (sym e)
run-tells bs false e = λ h. let f = e ∙ run-back Begin bs h in cc

-- ---- The beginning of a number

-- the last part of bytes in a row
run-append : (p : Part) (xs ys : List ℕ) → run p (xs ++ ys) ≡ run (run p xs) ys
run-append p [] ys = refl
run-append p (x ∷ xs) ys = run-append (next_part p x) xs ys

-- no bytes make a number of bytes that begin none
run-wrong : (ys : List ℕ) → is_last (run Wrong ys) ≡ false
run-wrong [] = refl
run-wrong (y ∷ ys) = run-wrong ys

-- some bytes make each other part the last of a number
run-ends : (p : Part) → is_wrong p ≡ false → (more : List ℕ) × (is_last (run p more) ≡ true)
run-ends Begin e = (48 ∷ [], refl)
run-ends Minus e = (48 ∷ [], refl)
run-ends Nought e = ([], refl)
run-ends Whole e = ([], refl)
run-ends Point e = (48 ∷ [], refl)
run-ends Fraction e = ([], refl)
run-ends Letter e = (48 ∷ [], refl)
run-ends Sign e = (48 ∷ [], refl)
run-ends Exponent e = ([], refl)
run-ends Wrong e = absurd (cc e)

-- the part of bytes that begin no number
wrong-is : (p : Part) → is_wrong p ≡ true → p ≡ Wrong
wrong-is Begin e = absurd (cc e)
wrong-is Minus e = absurd (cc e)
wrong-is Nought e = absurd (cc e)
wrong-is Whole e = absurd (cc e)
wrong-is Point e = absurd (cc e)
wrong-is Fraction e = absurd (cc e)
wrong-is Letter e = absurd (cc e)
wrong-is Sign e = absurd (cc e)
wrong-is Exponent e = absurd (cc e)
wrong-is Wrong e = refl

-- the last part says whether more bytes can make the bytes a number
pub run-begins : (bs : List ℕ) (answer : Bool) → answer ≡ not (is_wrong (run Begin bs))
    → Tells answer (BeginsNumber bs)
run-begins bs answer e = by-part (is_wrong (run Begin bs)) answer refl e
  where
    by-part : (wrong answer : Bool) → is_wrong (run Begin bs) ≡ wrong → answer ≡ not wrong
        → Tells answer (BeginsNumber bs)
    by-part true true is e = absurd (cc e)
    by-part true false is e = λ h.
        let last = run-append Begin bs h.0 ∙ ap (λ p. run p h.0) (wrong-is (run Begin bs) is) in
        let f = sym (run-back Begin (bs ++ h.0) h.1) ∙ ap is_last last ∙ run-wrong h.0 in cc f
    by-part false true is e =
        let ends = run-ends (run Begin bs) is in
        (ends.0, run-on Begin (bs ++ ends.0) (ap is_last (run-append Begin bs ends.0) ∙ ends.1))
    by-part false false is e = absurd (cc e)
