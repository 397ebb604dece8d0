-- The answers of the reader of numbers, in the words of the format.
use Rattle.std.proofs.Common.{◌≡◌, ℕ, ◌≤◌, Bool, true, List, [], ◌∷◌, ◌++◌, length, inl, inr, ap, sym, ◌∙◌, subst, refl, arith, length-append}
use Rattle.std.specs.Prelude.{Result, Ok, Err, IfOk}
use Rattle.std.specs.Char.{is_ascii_digit}
use Rattle.std.proofs.lemmas.Bool.Decides.{nat_tests}
use Rattle.winnow_stream.specs.Source.{Source, HasPositiveWidths}
use Rattle.winnow_stream.specs.SliceBytes.{SlicesHaveBytes}
use Rattle.winnow_stream.specs.declared.needed.Needed.{Needed}
use Rattle.winnow_error.specs.declared.failure.Failure.{Failure}
use Rattle.winnow_error.specs.declared.failure.Failure.TheVariants.{Incomplete, Backtrack, Cut, Refused}
use Rattle.winnow_parser.specs.Outcome.{Ahead, Backtracks, Cuts, Needs}
use Rattle.winnow_parser.specs.Answer.{outcome}
use Rattle.format_lemmas.specs.Bytes.{Each, bytes_of}
use Rattle.format_lemmas.proofs.lemmas.TokenLemmas.{itself}
use Rattle.format_json_scalars.specs.Numbers.{AreDigits, IsMinus, IsWhole, IsFraction, IsPower, IsExponent, IsNumber, is_number_byte}
use Rattle.format_json_scalars.specs.Needing.{NeedsOneByte}
use Rattle.format_json_scalars.specs.NumberAnswers.{IsNumberAnswer, IsLongest, GivesEachNumber}
use Rattle.format_json_scalars.specs.Meanings.{NumberRun}
use Rattle.format_json_scalars.specs.declared.numbers.Number.{Number}
use Rattle.format_json_scalars.proofs.lemmas.RunLemmas.{longest-run, run-given, run-fails, run-once, run-missed}

-- ---- The bytes of a number

-- the test holds of each of two rows of bytes in a row
each-append : (test : ℕ → Bool) (t u : List ℕ) → Each test t → Each test u → Each test (t ++ u)
each-append test [] u g h = h
each-append test (x ∷ t) u g h = (g.0, each-append test t u g.1 h)

-- a digit is a byte of a number
digit-byte : (b : ℕ) → is_ascii_digit b ≡ true → is_number_byte b ≡ true
digit-byte b e = grind (arith, nat_tests, e)

-- digits are bytes of a number
digits-bytes : (t : List ℕ) → Each is_ascii_digit t → Each is_number_byte t
digits-bytes [] h = tt
digits-bytes (x ∷ t) h = (digit-byte x h.0, digits-bytes t h.1)

-- one or more digits are bytes of a number
some-bytes : (t : List ℕ) → AreDigits t → Each is_number_byte t
some-bytes [] h = absurd h
some-bytes (x ∷ t) h = (digit-byte x h.0, digits-bytes t h.1)

-- a minus is a byte of a number
minus-bytes : (t : List ℕ) → IsMinus t → Each is_number_byte t
minus-bytes t (inl e) = subst (Each is_number_byte) (sym e) tt
minus-bytes t (inr e) = subst (Each is_number_byte) (sym e) (refl, tt)

-- a whole part is of bytes of a number
whole-bytes : (t : List ℕ) → IsWhole t → Each is_number_byte t
whole-bytes [] h = absurd h
whole-bytes (x ∷ t) (inl (e, none)) = (ap is_number_byte e, subst (Each is_number_byte) (sym none) tt)
whole-bytes (x ∷ t) (inr (e, h)) = (grind (arith, nat_tests, e), digits-bytes t h)

-- a fraction is of bytes of a number
fraction-bytes : (t : List ℕ) → IsFraction t → Each is_number_byte t
fraction-bytes t (inl e) = subst (Each is_number_byte) (sym e) tt
fraction-bytes t (inr (ds, (e, h))) = subst (Each is_number_byte) (sym e) (refl, some-bytes ds h)

-- a power is of bytes of a number
power-bytes : (t : List ℕ) → IsPower t → Each is_number_byte t
power-bytes [] h = absurd h
power-bytes (x ∷ t) (inl (e, h)) = (grind (arith, nat_tests, e), some-bytes t h)
power-bytes (x ∷ t) (inr h) = some-bytes (x ∷ t) h

-- an exponent is of bytes of a number
exponent-bytes : (t : List ℕ) → IsExponent t → Each is_number_byte t
exponent-bytes [] h = tt
exponent-bytes (x ∷ t) (e, h) = (grind (arith, nat_tests, e), power-bytes t h)

-- each byte of a number is a byte of a number
pub number-bytes : (t : List ℕ) → IsNumber t → Each is_number_byte t
number-bytes t (n, (w, (f, (x, (split, minus, whole, fraction, exponent))))) =
    subst (Each is_number_byte) (sym split)
    (each-append is_number_byte n (w ++ (f ++ x)) (minus-bytes n minus)
    (each-append is_number_byte w (f ++ x) (whole-bytes w whole)
    (each-append is_number_byte f x (fraction-bytes f fraction) (exponent-bytes x exponent))))

-- a number is not empty
pub number-some : (t : List ℕ) → IsNumber t → 1 ≤ length t
number-some t (n, ([], (f, (x, (split, minus, whole, rest, more))))) = absurd whole
number-some t (n, (c ∷ w, (f, (x, (split, minus, whole, rest, more))))) =
    omega (arith, ap length split, length-append n (c ∷ (w ++ (f ++ x))))

-- ---- Answers

module _ {S : Type 0} (is_slice : S → Source ℕ → ℕ → Type 0) (bytes : S → List ℕ) (have : SlicesHaveBytes is_slice bytes) (partial : Bool) {E : Type 0} (a b : Ahead ℕ) where
  -- each answer is one that `IsNumberAnswer` allows
  pub number-answers : (result : Result Number (Failure E Needed)) → HasPositiveWidths a.tokens
      → NumberRun itself is_slice bytes partial a (outcome result b)
      → IsNumberAnswer partial (bytes_of a.tokens) result (bytes_of b.tokens)
  number-answers (Ok number) wide (slice, (is, h)) =
      let given = run-given is_slice bytes have is_number_byte IsNumber partial slice a b wide h in
      (bytes slice, ((given.0, given.1, given.3), is))
  number-answers (Err (Backtrack e)) wide h =
      let fails = run-fails is_slice bytes have is_number_byte IsNumber partial (Backtracks b) a wide h in
      (ap (λ p. bytes_of p.tokens) fails.0, fails.1)
  number-answers (Err (Cut e)) wide h = run-fails is_slice bytes have is_number_byte IsNumber partial (Cuts b) a wide h
  number-answers (Err (Incomplete n)) wide h = run-fails is_slice bytes have is_number_byte IsNumber partial (Needs n) a wide h
  number-answers (Err (Refused e)) wide h = tt

  -- where more is needed, one byte is
  pub number-need : (result : Result Number (Failure E Needed))
      → NumberRun itself is_slice bytes partial a (outcome result b) → NeedsOneByte result
  number-need (Ok number) h = tt
  number-need (Err (Backtrack e)) h = tt
  number-need (Err (Cut e)) h = tt
  number-need (Err (Incomplete n)) h = h.0
  number-need (Err (Refused e)) h = tt

  -- the bytes begin with no longer number
  pub number-longest : (result : Result Number (Failure E Needed)) → HasPositiveWidths a.tokens
      → NumberRun itself is_slice bytes partial a (outcome result b)
      → IfOk result (IsLongest (bytes_of a.tokens))
  number-longest (Ok number) wide (slice, (is, h)) = λ text rest e number_is.
      let given = run-given is_slice bytes have is_number_byte IsNumber partial slice a b wide h in
      let on = longest-run is_number_byte (bytes slice) (bytes_of b.tokens) text rest given.3.0 (number-bytes text number_is) (sym given.0 ∙ e) in
      subst (λ t. length text ≤ length t) (sym is.0) on
  number-longest (Err failure) wide h = tt

  -- each number with which the bytes begin is returned
  pub number-each : (result : Result Number (Failure E Needed)) → HasPositiveWidths a.tokens
      → NumberRun itself is_slice bytes partial a (outcome result b)
      → GivesEachNumber partial (bytes_of a.tokens) result (bytes_of b.tokens)
  number-each (Ok number) wide (slice, (is, h)) text after (e, number_is, ends) =
      let one = run-once is_slice bytes have is_number_byte IsNumber partial text after (number-some text number_is) number_is (number-bytes text number_is) ends slice a b wide e h in
      (is.0 ∙ one.0, one.1)
  number-each (Err (Backtrack e)) wide h text after (f, is, ends) =
      run-missed is_slice bytes have is_number_byte IsNumber partial text after (number-some text is) is (number-bytes text is) ends (Backtracks b) a wide f h
  number-each (Err (Cut e)) wide h text after (f, is, ends) =
      run-missed is_slice bytes have is_number_byte IsNumber partial text after (number-some text is) is (number-bytes text is) ends (Cuts b) a wide f h
  number-each (Err (Incomplete n)) wide h text after (f, is, ends) =
      run-missed is_slice bytes have is_number_byte IsNumber partial text after (number-some text is) is (number-bytes text is) ends (Needs n) a wide f h
  number-each (Err (Refused e)) wide h text after (f, is, ends) = tt
