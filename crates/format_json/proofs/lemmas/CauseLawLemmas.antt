-- The cause of damage is the same, no matter what follows.
use Rattle.std.proofs.Common.{◌≡◌, ℕ, ◌==◌, Bool, true, false, ◌&&◌, ◌||◌, if◌then◌else◌, List, [], ◌∷◌, ◌++◌, inl, inr, ap, sym, subst, refl, arith}
use Rattle.std.proofs.lemmas.Bool.Decides.{nat_tests}
use Rattle.std.specs.Char.{digit_value}
use Rattle.format_lemmas.specs.Bytes.{Each}
use Rattle.format_json_scalars.specs.Numbers.{is_number_byte}
use Rattle.format_json_scalars.specs.StringAnswers.{BeginsChar, IsWrong}
use Rattle.format_json.specs.TokenAnswers.{IsNoToken, IsWrongAt}
use Rattle.format_json.specs.TokenLaws.{begun-char}
use Rattle.format_json.specs.Causes.{has_nought, has_leading_zero, begins_surrogate, char_cause, cause_of}
use Rattle.format_json.specs.declared.tokens.Token.TheVariants as token
use Rattle.format_json.specs.declared.causes.Cause.TheVariants.{LeadingZero, BadNumber, LoneSurrogate, BadEscape}

-- what is the same where a test holds is the same in a conjunction
and-same : (p u v : Bool) → (p ≡ true → u ≡ v) → (p && u) ≡ (p && v)
and-same true u v f = f refl
and-same false u v f = refl

-- and under a condition
if-same : {A : Type 0} (p : Bool) (u v w : A) → (p ≡ true → u ≡ v)
    → (if p then u else w) ≡ (if p then v else w)
if-same true u v w f = f refl
if-same false u v w f = refl

-- the same where a test does not hold
else-same : {A : Type 0} (p : Bool) (t s u v : A) → p ≡ false → u ≡ v
    → (if p then t else u) ≡ (if p then s else v)
else-same true t s u v e same = absurd (cc e)
else-same false t s u v e same = same

-- ---- Strings

-- a backslash and an n are a character
newline-begins : BeginsChar (92 ∷ 110 ∷ [])
newline-begins = (10, (92 ∷ 110 ∷ [], ([], (refl, inr (inl (110, (refl, refl)))))))

-- a backslash, a `u` and four zeros are a character
zeros-begin : BeginsChar (92 ∷ 117 ∷ 48 ∷ 48 ∷ 48 ∷ 48 ∷ [])
zeros-begin = (0, (92 ∷ 117 ∷ 48 ∷ 48 ∷ 48 ∷ 48 ∷ [], ([], (refl, inr (inr (inl (refl, (48, (48, (48, (48, (refl, (omega arith, omega arith, omega arith, omega arith), refl))))))))))))

-- where a string is damaged at a backslash, the bytes say whether a surrogate is written
surrogate-more : (r more : List ℕ) → IsWrong true (92 ∷ r)
    → begins_surrogate (92 ∷ (r ++ more)) ≡ begins_surrogate (92 ∷ r)
surrogate-more [] more wrong = absurd (wrong.1 (110 ∷ []) (λ e. cc e) newline-begins)
surrogate-more (a ∷ []) more wrong =
    and-same (117 == a) _ _ (λ e.
    let is : 117 ≡ a = grind (arith, nat_tests, e) in
    absurd (wrong.1 (48 ∷ 48 ∷ 48 ∷ 48 ∷ []) (λ f. cc f) (subst (λ n. BeginsChar (92 ∷ n ∷ 48 ∷ 48 ∷ 48 ∷ 48 ∷ [])) is zeros-begin)))
surrogate-more (a ∷ b ∷ []) more wrong =
    and-same (117 == a) _ _ (λ e. and-same (digit_value b == 13) _ _ (λ f.
    let is : 117 ≡ a = grind (arith, nat_tests, e) in
    let high : digit_value b ≡ 13 = grind (arith, nat_tests, f) in
    absurd (wrong.1 (48 ∷ 48 ∷ 48 ∷ []) (λ g. cc g) (subst (λ n. BeginsChar (92 ∷ n ∷ b ∷ 48 ∷ 48 ∷ 48 ∷ [])) is (high-begins b high)))))
  where
    high-begins : (b : ℕ) → digit_value b ≡ 13 → BeginsChar (92 ∷ 117 ∷ b ∷ 48 ∷ 48 ∷ 48 ∷ [])
    high-begins b high =
        (0xD000, (92 ∷ 117 ∷ b ∷ 48 ∷ 48 ∷ 48 ∷ [], ([], (refl, inr (inr (inl (refl, (b, (48, (48, (48, (refl, (omega (arith, high), omega arith, omega arith, omega arith), omega (arith, high)))))))))))))
surrogate-more (a ∷ b ∷ c ∷ r) more wrong = refl

-- where a string is damaged, the bytes say why
char-more : (rest more : List ℕ) → IsWrong true rest → char_cause (rest ++ more) ≡ char_cause rest
char-more [] more wrong = absurd (wrong.1 (97 ∷ []) (λ e. cc e) begun-char)
char-more (x ∷ r) more wrong =
    if-same (92 == x) _ _ _ (λ e.
    let is : 92 ≡ x = grind (arith, nat_tests, e) in
    subst (λ n. (if begins_surrogate (n ∷ (r ++ more)) then LoneSurrogate else BadEscape) ≡ (if begins_surrogate (n ∷ r) then LoneSurrogate else BadEscape)) is
    (ap (λ t. if t then LoneSurrogate else BadEscape) (surrogate-more r more (subst (λ n. IsWrong true (n ∷ r)) (sym is) wrong))))

-- ---- Other tokens

-- where a number has ended, its bytes say whether it has a zero before its first digit
zero-more : (x : ℕ) (q more : List ℕ) → is_number_byte x ≡ true → ¬ (Each is_number_byte (x ∷ q))
    → has_leading_zero ((x ∷ q) ++ more) ≡ has_leading_zero (x ∷ q)
zero-more x [] more is ended = absurd (ended (is, tt))
zero-more x (y ∷ []) more is ended =
    ap (λ t. has_nought (x ∷ y ∷ []) 0 || t) (and-same (45 == x) _ _ (λ e. and-same (48 == y) _ _ (λ f.
    let zero : 48 ≡ y = grind (arith, nat_tests, f) in
    absurd (ended (is, (subst (λ n. is_number_byte n ≡ true) zero refl, tt))))))
zero-more x (y ∷ z ∷ q) more is ended = refl

-- where no token begins, its bytes say why
start-more : (x : ℕ) (q r s more : List ℕ) → IsNoToken true (x ∷ q)
    → cause_of ((x ∷ q) ++ more) s ≡ cause_of (x ∷ q) r
start-more x q r s more (quote, number, none) =
    else-same (34 == x) _ _ _ _ (no-quote (34 == x) (λ e. quote (grind (arith, nat_tests, e))))
    (if-same (is_number_byte x) _ _ _ (λ is. ap (λ t. if t then LeadingZero else BadNumber) (zero-more x q more is (number refl))))
  where
    no-quote : (t : Bool) → (t ≡ true → ⊥) → t ≡ false
    no-quote true f = absurd (f refl)
    no-quote false f = refl

-- the cause of damage is the same, no matter what follows
pub cause-more : (here rest more : List ℕ) → IsWrongAt true here rest
    → cause_of (here ++ more) (rest ++ more) ≡ cause_of here rest
cause-more here rest more (inl (t, (cs, (e, spells, wrong)))) =
    subst (λ h. cause_of (h ++ more) (rest ++ more) ≡ cause_of h rest) (sym e) (char-more rest more wrong)
cause-more [] rest more (inr (e, none)) =
    absurd (none.2 (91 ∷ []) (λ f. cc f) token.StartArray [] refl)
cause-more (x ∷ q) rest more (inr (e, none)) = start-more x q rest (rest ++ more) more none
