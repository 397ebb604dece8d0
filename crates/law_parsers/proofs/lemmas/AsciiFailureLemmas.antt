-- Which errors the failures of text with escapes and of numbers carry, and which fragments are the
-- same.
use Rattle.std.specs.Prelude.{Bool, List, [], ◌∷◌}
use Rattle.std.proofs.Common.{◌≡◌, refl, ap, ◌∙◌, inl, inr}
use Rattle.winnow_stream.specs.declared.needed.Needed.{Needed}
use Rattle.winnow_error.specs.declared.failure.Failure.{Failure}
use Rattle.winnow_error.specs.declared.failure.Failure.TheVariants.{Incomplete, Backtrack, Cut, Refused}
use Rattle.winnow_parser.specs.Outcome.{Ahead, Outcome, Gives, Fails, Meaning}
use Rattle.winnow_parser.specs.Errors.{Errors}
use Rattle.winnow_parser.specs.Determined.{IsDetermined, Agree}
use Rattle.winnow_combinator.specs.Appended.{AppendedErrors}
use Rattle.winnow_combinator.specs.DeterminedLists.{AreSameEach}
use Rattle.winnow_combinator.specs.Misuse.{GatheredErrors}
use Rattle.winnow_ascii.specs.Escaped.{NextFragment, UpToEnd, EscapeErrors, FragmentErrors, UpToEndErrors, InTurnErrors, AreSameFragments}
use Rattle.winnow_ascii.specs.declared.fragment.Fragment.{Fragment}
use Rattle.winnow_ascii.specs.declared.fragment.Fragment.TheVariants.{Normal, Escaped}
use Rattle.winnow_ascii.specs.Numbers.{DigitErrors, ReadErrors}
use Rattle.law_parsers.specs.AsciiFailures.{IsOfPart, IsOfNumber}

-- a failure of text with escapes is one of its parts
pub of-part : {O C P E S T : Type 0} (normal : Meaning O T) (control : Meaning C T)
    (escapable : Meaning P T) (normal_errors control_errors errors : Errors E S T)
    (partial : Bool) (a : Ahead T) (s : S) (f : Failure E Needed)
    → GatheredErrors (InTurnErrors (UpToEnd (NextFragment normal control escapable))
    (UpToEndErrors (FragmentErrors normal normal_errors (EscapeErrors control control_errors errors)))) partial a s f
    → IsOfPart normal normal_errors control control_errors errors partial s f
of-part normal control escapable normal_errors control_errors errors partial a s (Backtrack e) (inl (xs, (b, (takes, inl (inl own))))) = absurd own
of-part normal control escapable normal_errors control_errors errors partial a s (Backtrack e) (inl (xs, (b, (takes, inl (inr (absent, inl own)))))) = absurd own
of-part normal control escapable normal_errors control_errors errors partial a s (Backtrack e) (inl (xs, (b, (takes, inl (inr (absent, inr after)))))) = (b, (absent, after))
of-part normal control escapable normal_errors control_errors errors partial a s (Backtrack e) (inl (xs, (b, (takes, inr none)))) = absurd none
of-part normal control escapable normal_errors control_errors errors partial a s (Backtrack e) (inr refused) = absurd refused
of-part normal control escapable normal_errors control_errors errors partial a s (Cut e) (inl (xs, (b, (takes, inl (inl own))))) = (b, inl own)
of-part normal control escapable normal_errors control_errors errors partial a s (Cut e) (inl (xs, (b, (takes, inl (inr (absent, inl own)))))) = (b, inr (absent, inl own))
of-part normal control escapable normal_errors control_errors errors partial a s (Cut e) (inl (xs, (b, (takes, inl (inr (absent, inr after)))))) = (b, inr (absent, inr after))
of-part normal control escapable normal_errors control_errors errors partial a s (Cut e) (inl (xs, (b, (takes, inr none)))) = absurd none
of-part normal control escapable normal_errors control_errors errors partial a s (Cut e) (inr refused) = absurd refused
of-part normal control escapable normal_errors control_errors errors partial a s (Incomplete n) h = tt
of-part normal control escapable normal_errors control_errors errors partial a s (Refused r) h = tt

-- a failure of a number is one of its digits, or of what they read as
pub of-number : {G R O E S C T : Type 0} (reads : G → R → Type 0) (digits : Meaning G T)
    (stands : S → Ahead T) (stood : C → Ahead T) (first : Meaning O T)
    (found asserted : S → E → Type 0) (joins : E → E → E → Type 0)
    (appends : E → S → C → E → Type 0) (partial : Bool) (a : Ahead T) (s : S)
    (f : Failure E Needed)
    → ReadErrors reads found digits (AppendedErrors stood appends (DigitErrors stands first found asserted joins)) partial a s f
    → IsOfNumber reads digits stands stood first found asserted joins appends partial a s f
of-number reads digits stands stood first found asserted joins appends partial a s (Backtrack e) (inl h) = inl h
of-number reads digits stands stood first found asserted joins appends partial a s (Backtrack e) (inr (absent, (whole, (start, ((one, (other, (left, k, both))), at, adds))))) =
    inr (absent, (one, (other, (whole, (start, (left, k, both, at, adds))))))
of-number reads digits stands stood first found asserted joins appends partial a s (Cut e) h = h
of-number reads digits stands stood first found asserted joins appends partial a s (Incomplete n) h = tt
of-number reads digits stands stood first found asserted joins appends partial a s (Refused r) h = tt

module _ {O P : Type 0} where
  -- fragments that are the same, where only equal values are, are equal
  same-fragment : (x y : Fragment O P) → AreSameFragments ◌≡◌ ◌≡◌ x y → x ≡ y
  same-fragment (Normal x) (Normal y) h = ap Normal h
  same-fragment (Normal x) (Escaped y) h = absurd h
  same-fragment (Escaped x) (Normal y) h = absurd h
  same-fragment (Escaped x) (Escaped y) h = ap Escaped h

  -- lists of the same fragments are equal
  pub same-fragments : (xs ys : List (Fragment O P)) → AreSameEach (AreSameFragments ◌≡◌ ◌≡◌) xs ys
      → xs ≡ ys
  same-fragments [] [] h = refl
  same-fragments [] (y ∷ ys) h = absurd h
  same-fragments (x ∷ xs) [] h = absurd h
  same-fragments (x ∷ xs) (y ∷ ys) (h, more) =
      ap (λ z. z ∷ xs) (same-fragment x y h) ∙ ap (λ zs. y ∷ zs) (same-fragments xs ys more)

-- a parser of which any two values are the same has one value, where the same values are equal
pub one-value : {O T : Type 0} (same : O → O → Type 0) (means : Meaning O T)
    → ((x y : O) → same x y → x ≡ y) → IsDetermined same means → IsDetermined ◌≡◌ means
one-value {O} {T} same means equal d partial a v w p q h k = by v w (d partial a v w p q h k)
  where
    by : (v w : Outcome O T) → Agree same v w → Agree ◌≡◌ v w
    by (Gives x b) (Gives y c) (s, e) = (equal x y s, e)
    by (Gives x b) (Fails g) s = absurd s
    by (Fails f) (Gives y c) s = absurd s
    by (Fails f) (Fails g) s = s
