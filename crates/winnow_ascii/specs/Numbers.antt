-- The numbers that decimal digits write.
use Rattle.std.specs.Prelude.{◌≡◌, ℕ, ◌==◌, Bool, ◌||◌, ◌⊎◌, ⊤, Option, None}
use Rattle.std.specs.Char.{is_ascii_digit}
use Rattle.std.specs.Int.{is_in_range}
use Rattle.winnow_stream.specs.Source.{Source}
use Rattle.winnow_stream.specs.Longer.{SlicesStay}
use Rattle.winnow_count.specs.Reading.{IsSomeExactly}
use Rattle.winnow_error.specs.declared.failure.Failure.TheVariants.{Incomplete, Backtrack, Cut, Refused}
use Rattle.winnow_parser.specs.Outcome.{Ahead, Gives, Meaning}
use Rattle.winnow_parser.specs.Errors.{Errors, OwnErrors, FailsLeaving}
use Rattle.winnow_parser.specs.Laws.{IsParser}
use Rattle.winnow_parser.specs.Meanings.{Maps, IsForgotten, Pair, IsAlt2, IsOpt, VerifyMaps}
use Rattle.winnow_parser.specs.Taken.{Taken, IsParser-Taken}
use Rattle.winnow_parser.specs.Parts.{IsParser-Maps, IsParser-Pair, IsParser-IsAlt2, IsParser-IsOpt, IsParser-VerifyMaps}
use Rattle.winnow_token.specs.OneOf.{IsOneOf, IsParser-IsOneOf}
use Rattle.winnow_token.specs.TakeWhile.{TakesWhile, IsParser-TakesWhile}
use Rattle.winnow_combinator.specs.Appended.{Appending, IsParser-Appending}
use Rattle.winnow_ascii.specs.Escaped.{IsAbsent}

-- a sign: a plus (43) or a minus (45)
abbrev pub is_sign : ℕ → Bool
is_sign c = 43 == c || 45 == c

-- a digit that is not 0
abbrev pub is_nonzero_digit : ℕ → Bool
is_nonzero_digit c = is_in_range 49 57 c

module _ {S T : Type 0} (is_slice : S → Source T → ℕ → Type 0) (code : T → ℕ) where
  -- a digit that is not 0, and all digits after it
  abbrev pub Digits : Meaning (T × S) T
  Digits = Pair (IsOneOf (λ token. is_nonzero_digit (code token))) (TakesWhile is_slice (λ token. is_ascii_digit (code token)) 0 None)

  -- a 0 (48)
  abbrev pub Zero : Meaning T T
  Zero = IsOneOf (λ token. 48 == code token)

-- such digits, with a sign before them or none
abbrev pub SignedDigits : {S T : Type 0} → (S → Source T → ℕ → Type 0) → (T → ℕ)
    → Meaning (Option T × (T × S)) T
SignedDigits is_slice code = Pair (IsOpt (IsOneOf (λ token. is_sign (code token)))) (Digits is_slice code)

-- such digits, or 0 alone; memory may be refused while the errors of both are joined, and while
-- the joined one is appended to
abbrev pub IsDecUint : {S T : Type 0} → Type 0 → Type 0 → (S → Source T → ℕ → Type 0) → (T → ℕ)
    → Meaning (Unit {0}) T
IsDecUint refusable appends is_slice code = Appending appends
    (IsAlt2 refusable (Maps IsForgotten (Digits is_slice code)) (Maps IsForgotten (Zero is_slice code)))

-- such digits, with a sign before them or none; or 0 alone
abbrev pub IsDecInt : {S T : Type 0} → Type 0 → Type 0 → (S → Source T → ℕ → Type 0) → (T → ℕ)
    → Meaning (Unit {0}) T
IsDecInt refusable appends is_slice code = Appending appends
    (IsAlt2 refusable (Maps IsForgotten (SignedDigits is_slice code)) (Maps IsForgotten (Zero is_slice code)))

-- the value that the slice of the inner parser reads as; where it reads as none, the parser
-- backtracks, from where it began
abbrev pub ReadAs : {S R T : Type 0} → (S → R → Type 0) → (S → Source T → ℕ → Type 0)
    → Meaning (Unit {0}) T → Meaning R T
ReadAs reads is_slice inner = VerifyMaps (λ slice value. IsSomeExactly (reads slice) value) (Taken is_slice inner)

-- an error that joins two, each made of the stream as one alternative leaves it; the first of the
-- two alternatives backtracks where it left the stream
abbrev pub DigitErrors : {O E S T : Type 0} → (S → Ahead T) → Meaning O T → (S → E → Type 0)
    → (S → E → Type 0) → (E → E → E → Type 0) → Errors E S T
DigitErrors {E = E} stands first makes cuts joins partial a s (Backtrack e) = (one : E) × ((other : E)
    × (FailsLeaving stands first (OwnErrors makes cuts) partial a (Backtrack one) × makes s other
    × joins one other e))
DigitErrors stands first makes cuts joins partial a s (Cut e) = cuts s e
DigitErrors stands first makes cuts joins partial a s (Incomplete n) = ⊤
DigitErrors stands first makes cuts joins partial a s (Refused r) = ⊤

-- where the inner parser gives a slice that reads as no value, an error that is made of the stream;
-- and where it fails, its own
abbrev pub ReadErrors : {S R E I T : Type 0} → (S → R → Type 0) → (I → E → Type 0) → Meaning S T
    → Errors E I T → Errors E I T
ReadErrors {S} {R} {E} {I} {T} reads makes means inner partial a s (Backtrack e) =
    ((slice : S) × ((b : Ahead T) × (means partial a (Gives slice b)
    × IsSomeExactly (reads slice) None × makes s e)))
    ⊎ (IsAbsent means partial a × inner partial a s (Backtrack e))
ReadErrors reads makes means inner partial a s (Cut e) = inner partial a s (Cut e)
ReadErrors reads makes means inner partial a s (Incomplete n) = inner partial a s (Incomplete n)
ReadErrors reads makes means inner partial a s (Refused r) = inner partial a s (Refused r)

-- ---- The laws

module _ {S T : Type 0} (refusable appends : Type 0) (is_slice : S → Source T → ℕ → Type 0) (stay : SlicesStay is_slice) (code : T → ℕ) where
  -- `Digits` keeps the laws of a parser
  digits-parser : IsParser (Digits is_slice code)
  digits-parser = IsParser-Pair _ _ (IsParser-IsOneOf _) (IsParser-TakesWhile is_slice stay _ 0 None)

  -- `Zero`, with its value dropped, keeps the laws of a parser
  zero-parser : IsParser (Maps IsForgotten (Zero is_slice code))
  zero-parser = IsParser-Maps IsForgotten _ (IsParser-IsOneOf _)

  -- `IsDecUint` keeps the laws of a parser
  pub IsParser-IsDecUint : IsParser (IsDecUint refusable appends is_slice code)
  IsParser-IsDecUint =
      IsParser-Appending appends (IsParser-IsAlt2 refusable _ _ (IsParser-Maps IsForgotten _ digits-parser) zero-parser)

  -- `IsDecInt` keeps the laws of a parser
  pub IsParser-IsDecInt : IsParser (IsDecInt refusable appends is_slice code)
  IsParser-IsDecInt = IsParser-Appending appends
      (IsParser-IsAlt2 refusable _ _ (IsParser-Maps IsForgotten _ (IsParser-Pair _ _ (IsParser-IsOpt _ (IsParser-IsOneOf _)) digits-parser)) zero-parser)

module _ {S R T : Type 0} (reads : S → R → Type 0) (is_slice : S → Source T → ℕ → Type 0) (stay : SlicesStay is_slice) (inner : Meaning (Unit {0}) T) (p : IsParser inner) where
  -- `ReadAs` keeps the laws of a parser
  pub IsParser-ReadAs : IsParser (ReadAs reads is_slice inner)
  IsParser-ReadAs = IsParser-VerifyMaps (λ slice value. IsSomeExactly (reads slice) value) _ (IsParser-Taken is_slice stay inner p)
