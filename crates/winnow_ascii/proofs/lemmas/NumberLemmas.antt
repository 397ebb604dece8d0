-- The meaning of a signed number, from the sets and counts of its parts, and the errors of numbers.
use Rattle.std.proofs.Common.{◌≡◌, ℕ, Bool, ◌||◌, ◌==◌, Option, None, subst, inl, inr}
use Rattle.std.specs.Int.{is_in_range}
use Rattle.winnow_stream.specs.Source.{Source}
use Rattle.winnow_stream.specs.declared.needed.Needed.{Needed}
use Rattle.winnow_error.specs.declared.failure.Failure.{Failure}
use Rattle.winnow_error.specs.declared.failure.Failure.TheVariants.{Incomplete, Backtrack, Cut, Refused}
use Rattle.winnow_parser.specs.Outcome.{Ahead, Outcome, Meaning}
use Rattle.winnow_parser.specs.Errors.{Errors, OwnErrors, PairErrors, AltErrors2}
use Rattle.winnow_parser.specs.Meanings.{Maps, IsForgotten, Pair, IsAlt2, IsOpt}
use Rattle.winnow_parser.specs.Taken.{Taken}
use Rattle.winnow_token.specs.OneOf.{IsOneOf}
use Rattle.winnow_token.specs.TakeWhile.{TakesWhile}
use Rattle.winnow_combinator.specs.Appended.{Appending, AppendedErrors}
use Rattle.winnow_ascii.specs.declared.class.Class.{Class}
use Rattle.winnow_ascii.specs.declared.class.Class.TheVariants.{Digit}
use Rattle.winnow_ascii.specs.Classes.{is_in_class}
use Rattle.winnow_ascii.specs.Numbers.{Digits, SignedDigits, IsDecInt, DigitErrors}

-- ---- Errors that are made of the stream

module _ {E I T : Type 0} (makes cuts : I → E → Type 0) where
  -- these errors are made of the stream as it is left
  abbrev AreOwn : Errors E I T → Type 0
  AreOwn errors = (partial : Bool) (a : Ahead T) (s : I) (f : Failure E Needed)
      → errors partial a s f → OwnErrors makes cuts partial a s f

  -- errors of a backtrack and of a cut are made of the stream as it is left
  own-own : AreOwn (OwnErrors makes cuts)
  own-own partial a s f h = h

  -- the place from which a parser was asked does not matter to them
  own-anywhere : (partial : Bool) (a b : Ahead T) (s : I) (f : Failure E Needed)
      → OwnErrors makes cuts partial b s f → OwnErrors makes cuts partial a s f
  own-anywhere partial a b s (Backtrack e) h = h
  own-anywhere partial a b s (Cut e) h = h
  own-anywhere partial a b s (Incomplete n) h = tt
  own-anywhere partial a b s (Refused r) h = tt

  -- the errors of a pair are so, where those of both are
  own-pair : {O : Type 0} (means : Meaning O T) (first second : Errors E I T) → AreOwn first
      → AreOwn second → AreOwn (PairErrors means first second)
  own-pair means first second p q partial a s f (inl h) = p partial a s f h
  own-pair means first second p q partial a s f (inr h) =
      own-anywhere partial a h.1.0 s f (q partial h.1.0 s f h.1.1.1)

  -- two alternatives with such errors join them as numbers do
  own-digits : {O : Type 0} (stands : I → Ahead T) (joins : E → E → E → Type 0)
      (means : Meaning O T) (first second : Errors E I T) → AreOwn first → AreOwn second
      → (partial : Bool) (a : Ahead T) (s : I) (f : Failure E Needed)
      → AltErrors2 stands joins means first second partial a s f
      → DigitErrors stands means makes cuts joins partial a s f
  own-digits stands joins means first second p q partial a s (Backtrack e) (one, (other, ((r, (h, left)), k, both))) =
      (one, (other, ((r, (p partial a r (Backtrack one) h, left)), q partial a s (Backtrack other) k, both)))
  own-digits stands joins means first second p q partial a s (Cut e) (inl h) = p partial a s (Cut e) h
  own-digits stands joins means first second p q partial a s (Cut e) (inr (one, (h, k))) = q partial a s (Cut e) k
  own-digits stands joins means first second p q partial a s (Incomplete n) h = tt
  own-digits stands joins means first second p q partial a s (Refused r) h = tt

-- what holds of the errors of one parser holds of those that are appended to
appended-as : {E I C T : Type 0} (stood : C → Ahead T) (appends : E → I → C → E → Type 0)
    (first second : Errors E I T) (partial : Bool) (a : Ahead T) (s : I)
    → ((k : Failure E Needed) → first partial a s k → second partial a s k)
    → (f : Failure E Needed) → AppendedErrors stood appends first partial a s f
    → AppendedErrors stood appends second partial a s f
appended-as stood appends first second partial a s move (Backtrack e) (one, (start, (h, at, adds))) =
    (one, (start, (move (Backtrack one) h, at, adds)))
appended-as stood appends first second partial a s move (Cut e) h = move (Cut e) h
appended-as stood appends first second partial a s move (Incomplete n) h = move (Incomplete n) h
appended-as stood appends first second partial a s move (Refused r) h = tt

-- ---- The sets and counts of decimal digits

module _ {S T : Type 0} (refusable q : Type 0) (is_slice : S → Source T → ℕ → Type 0) (code : T → ℕ) where
  -- the meaning of digits with these first digits, class and counts
  abbrev Counting : ℕ → ℕ → Class → ℕ → Option ℕ → Meaning (T × S) T
  Counting first last class least greatest =
      Pair (IsOneOf (λ token. is_in_range first last (code token))) (TakesWhile is_slice (λ token. is_in_class class (code token)) least greatest)

  -- the errors of such digits, whose parts make them of the stream
  abbrev CountingErrors : {E I : Type 0} → (I → E → Type 0) → (I → E → Type 0) → ℕ → ℕ
      → Errors E I T
  CountingErrors makes cuts first last = PairErrors (IsOneOf (λ token. is_in_range first last (code token))) (OwnErrors makes cuts) (OwnErrors makes cuts)

  -- the meaning of a token that is one of these signs, or none
  abbrev Signing : ℕ × ℕ → Meaning (Option T) T
  Signing signs = IsOpt (IsOneOf (λ token. signs.0 == code token || signs.1 == code token))

  -- the meaning of such digits with these signs before them
  abbrev Composing : ℕ × ℕ → ℕ → ℕ → Class → ℕ → Option ℕ → Meaning (Option T × (T × S)) T
  Composing signs first last class least greatest = Pair (Signing signs) (Counting first last class least greatest)

  -- the errors of such digits with these signs before them
  abbrev ComposingErrors : {E I : Type 0} → (I → E → Type 0) → (I → E → Type 0) → ℕ
      × ℕ → ℕ → ℕ → Errors E I T
  ComposingErrors makes cuts signs first last = PairErrors (Signing signs) (OwnErrors makes cuts) (CountingErrors makes cuts first last)

  -- the meaning of a number with these signs, first digits, class, counts, and single digit
  abbrev Composed : ℕ × ℕ → ℕ → ℕ → Class → ℕ → Option ℕ → ℕ → Meaning S T
  Composed signs first last class least greatest alone =
      Taken is_slice (Appending q (IsAlt2 refusable (Maps IsForgotten (Composing signs first last class least greatest)) (Maps IsForgotten (IsOneOf (λ token. alone == code token)))))

  -- with the sets and counts of a decimal number, `Composed` is `IsDecInt`
  pub signed-as : {signs : ℕ
      × ℕ} {first last : ℕ} {class : Class} {least : ℕ} {greatest : Option ℕ} {alone : ℕ}
      (partial : Bool) (a : Ahead T) (v : Outcome S T)
      → signs ≡ (43, 45) → first ≡ 49 → last ≡ 57 → class ≡ Digit → least ≡ 0 → greatest ≡ None → alone ≡ 48
      → Composed signs first last class least greatest alone partial a v → Taken is_slice (IsDecInt refusable q is_slice code) partial a v
  signed-as {signs} {first} {last} {class} {least} {greatest} {alone} partial a v s f l c n m z h =
      subst (λ signs. Composed signs 49 57 Digit 0 None 48 partial a v) s
      (subst (λ first. Composed signs first 57 Digit 0 None 48 partial a v) f
      (subst (λ last. Composed signs first last Digit 0 None 48 partial a v) l
      (subst (λ class. Composed signs first last class 0 None 48 partial a v) c
      (subst (λ least. Composed signs first last class least None 48 partial a v) n
      (subst (λ greatest. Composed signs first last class least greatest 48 partial a v) m
      (subst (λ alone. Composed signs first last class least greatest alone partial a v) z h))))))

  module _ {E I : Type 0} (stands : I → Ahead T) (makes cuts : I → E → Type 0) (joins : E → E → E → Type 0) where
    -- digits and 0 alone, as alternatives, make and join their errors as numbers do
    counting-errors : (first last : ℕ) (class : Class) (least : ℕ) (greatest : Option ℕ)
        (partial : Bool) (a : Ahead T) (s : I) (f : Failure E Needed)
        → AltErrors2 stands joins (Maps IsForgotten (Counting first last class least greatest))
        (CountingErrors makes cuts first last) (OwnErrors makes cuts) partial a s f
        → DigitErrors stands (Maps IsForgotten (Counting first last class least greatest)) makes cuts joins partial a s f
    counting-errors first last class least greatest partial a s f h =
        let own = own-own {T = T} makes cuts in
        let digits = own-pair makes cuts (IsOneOf (λ token. is_in_range first last (code token))) (OwnErrors makes cuts) (OwnErrors makes cuts) own own in
        own-digits makes cuts stands joins (Maps IsForgotten (Counting first last class least greatest)) (CountingErrors makes cuts first last) (OwnErrors makes cuts) digits own partial a s f h

    -- digits with a sign before them and 0 alone, as alternatives, do so too
    composing-errors : (signs : ℕ
        × ℕ) (first last : ℕ) (class : Class) (least : ℕ) (greatest : Option ℕ)
        (partial : Bool) (a : Ahead T) (s : I) (f : Failure E Needed)
        → AltErrors2 stands joins (Maps IsForgotten (Composing signs first last class least greatest))
        (ComposingErrors makes cuts signs first last) (OwnErrors makes cuts) partial a s f
        → DigitErrors stands (Maps IsForgotten (Composing signs first last class least greatest)) makes cuts joins partial a s f
    composing-errors signs first last class least greatest partial a s f h =
        let own = own-own {T = T} makes cuts in
        let digits = own-pair makes cuts (IsOneOf (λ token. is_in_range first last (code token))) (OwnErrors makes cuts) (OwnErrors makes cuts) own own in
        let signed = own-pair makes cuts (Signing signs) (OwnErrors makes cuts) (CountingErrors makes cuts first last) own digits in
        own-digits makes cuts stands joins (Maps IsForgotten (Composing signs first last class least greatest)) (ComposingErrors makes cuts signs first last) (OwnErrors makes cuts) signed own partial a s f h

    module _ {C : Type 0} (stood : C → Ahead T) (appends : E → I → C → E → Type 0) (partial : Bool) (a : Ahead T) (s : I) (f : Failure E Needed) where
      -- the errors of a number whose first alternative is this one, appended to
      abbrev NumberErrors : {O : Type 0} → Meaning O T → Type 0
      NumberErrors first = AppendedErrors stood appends (DigitErrors stands first makes cuts joins) partial a s f

      -- with the sets and counts of a decimal number they are the errors of `Digits`
      pub unsigned-errors : {first last : ℕ} {class : Class} {least : ℕ} {greatest : Option ℕ}
          → first ≡ 49 → last ≡ 57 → class ≡ Digit → least ≡ 0 → greatest ≡ None
          → AppendedErrors stood appends
          (AltErrors2 stands joins (Maps IsForgotten (Counting first last class least greatest))
          (CountingErrors makes cuts first last) (OwnErrors makes cuts)) partial a s f
          → NumberErrors (Maps IsForgotten (Digits is_slice code))
      unsigned-errors {first} {last} {class} {least} {greatest} fi la cl le gr h =
          let either = AltErrors2 stands joins (Maps IsForgotten (Counting first last class least greatest)) (CountingErrors makes cuts first last) (OwnErrors makes cuts) in
          let errors = DigitErrors stands (Maps IsForgotten (Counting first last class least greatest)) makes cuts joins in
          let joined = appended-as stood appends either errors partial a s (λ k j. counting-errors first last class least greatest partial a s k j) f h in
          subst (λ first. NumberErrors (Maps IsForgotten (Counting first 57 Digit 0 None))) fi
          (subst (λ last. NumberErrors (Maps IsForgotten (Counting first last Digit 0 None))) la
          (subst (λ class. NumberErrors (Maps IsForgotten (Counting first last class 0 None))) cl
          (subst (λ least. NumberErrors (Maps IsForgotten (Counting first last class least None))) le
          (subst (λ greatest. NumberErrors (Maps IsForgotten (Counting first last class least greatest))) gr joined))))

      -- and with signs those of `SignedDigits`
      pub signed-errors : {signs : ℕ
          × ℕ} {first last : ℕ} {class : Class} {least : ℕ} {greatest : Option ℕ}
          → signs ≡ (43, 45) → first ≡ 49 → last ≡ 57 → class ≡ Digit → least ≡ 0 → greatest ≡ None
          → AppendedErrors stood appends
          (AltErrors2 stands joins (Maps IsForgotten (Composing signs first last class least greatest))
          (ComposingErrors makes cuts signs first last) (OwnErrors makes cuts)) partial a s f
          → NumberErrors (Maps IsForgotten (SignedDigits is_slice code))
      signed-errors {signs} {first} {last} {class} {least} {greatest} si fi la cl le gr h =
          let either = AltErrors2 stands joins (Maps IsForgotten (Composing signs first last class least greatest)) (ComposingErrors makes cuts signs first last) (OwnErrors makes cuts) in
          let errors = DigitErrors stands (Maps IsForgotten (Composing signs first last class least greatest)) makes cuts joins in
          let joined = appended-as stood appends either errors partial a s (λ k j. composing-errors signs first last class least greatest partial a s k j) f h in
          subst (λ signs. NumberErrors (Maps IsForgotten (Composing signs 49 57 Digit 0 None))) si
          (subst (λ first. NumberErrors (Maps IsForgotten (Composing signs first 57 Digit 0 None))) fi
          (subst (λ last. NumberErrors (Maps IsForgotten (Composing signs first last Digit 0 None))) la
          (subst (λ class. NumberErrors (Maps IsForgotten (Composing signs first last class 0 None))) cl
          (subst (λ least. NumberErrors (Maps IsForgotten (Composing signs first last class least None))) le
          (subst (λ greatest. NumberErrors (Maps IsForgotten (Composing signs first last class least greatest))) gr joined)))))
