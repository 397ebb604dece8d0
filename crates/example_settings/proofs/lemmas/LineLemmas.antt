-- From the meaning of the parser of a line to the words of lines.
use Rattle.std.proofs.Common.{◌≡◌, ◌≢◌, ℕ, ◌<◌, Bool, [], ◌∷◌, Option, Some, None, length, drop, refl, ap, ◌∙◌, subst, arith, length-drop}
use Rattle.std.specs.Char.{is_ascii_alphabetic}
use Rattle.std.specs.Prelude.{◌==◌, IfOk, OnOk, IfErr}
use Rattle.std.proofs.lemmas.Bool.Decides.{nat_tests}
use Rattle.std.proofs.lemmas.List.{nil_from_length}
use Rattle.winnow_stream.specs.Source.{Source, width, first_token}
use Rattle.winnow_parser.specs.Outcome.{Ahead, Gives, Meaning}
use Rattle.winnow_parser.specs.Meanings.{Pair, IsOpt}
use Rattle.winnow_token.specs.TakeWhile.{TakesWhile}
use Rattle.winnow_token.specs.OneOf.{IsOneOf, after_one}
use Rattle.example_settings.specs.Lines.{is_blank, is_in_line, behind, behind_line, from_sign, from_value, IsPart, IsSetting, Lacks, told}
use Rattle.example_settings.specs.declared.fault.Wanted.TheVariants as wanted

-- input with a positive width has a character
pub some-wide : (r : Source ℕ) (n : ℕ) → 0 < n → n ≡ width r → r ≢ []
some-wide r n some is = λ e. omega (arith, some, is, ap width e)

-- a line takes at least one character
shorter : (n : ℕ) (r : Source ℕ) → r ≢ [] → length (drop 1 (drop n r)) < length r
shorter n [] some = absurd (some refl)
shorter n (x ∷ xs) some = omega (arith, length-drop 1 (drop n (x ∷ xs)), length-drop n (x ∷ xs))

-- fewer characters remain after a line
pub length-behind_line : (a : Ahead ℕ) → a.tokens ≢ []
    → length (behind_line a).tokens < length a.tokens
length-behind_line a some = shorter _ a.tokens some

module _ {S : Type 0} (is_slice : S → Source ℕ → ℕ → Type 0) where
  -- the meaning of a part and the blanks after it
  abbrev Spaced : {O : Type 0} → Meaning O ℕ → Meaning (O × S) ℕ
  Spaced part = Pair part (TakesWhile is_slice is_blank 0 None)

  -- the meaning of the parser of a line
  abbrev Line : Meaning (Option ((S × S) × Option ((ℕ × S) × Option S))) ℕ
  Line = IsOpt (Pair (Spaced (TakesWhile is_slice is_ascii_alphabetic 1 None)) (IsOpt (Pair (Spaced (IsOneOf (λ c. 61 == c))) (IsOpt (TakesWhile is_slice is_in_line 1 None)))))

  -- a key and blanks end at the place of the sign
  key : (partial : Bool) (a b : Ahead ℕ) (both : S × S)
      → Spaced (TakesWhile is_slice is_ascii_alphabetic 1 None) partial a (Gives both b)
      → IsPart is_slice is_ascii_alphabetic a both.0 × (b ≡ from_sign a)
  key partial a b both (c, (h, k)) = ((h.0, λ e. omega (arith, h.2, ap length e)), k.1 ∙ ap (behind is_blank) h.1)

  -- a sign and blanks end after the blanks
  sign : (partial : Bool) (a b : Ahead ℕ) (both : ℕ × S)
      → Spaced (IsOneOf (λ c. 61 == c)) partial a (Gives both b)
      → (first_token a.tokens ≡ Some 61) × (b ≡ behind is_blank (after_one a))
  sign partial a b both (c, (h, k)) = (grind (arith, nat_tests, h.0, h.1), k.1 ∙ ap (behind is_blank) h.2)

  -- the parts of a line make a setting, or say what is wanted where the stream then stands
  pub tells : (parts : Option ((S × S)
      × Option ((ℕ × S) × Option S))) (partial : Bool) (a b : Ahead ℕ)
      → Line partial a (Gives parts b)
      → IfOk (told parts) (IsSetting is_slice a)
      × OnOk (told parts) (b ≡ behind is_in_line (from_value a))
      × IfErr (told parts) (λ what. Lacks a what b)
  tells None partial a b (e, (c, h)) = (tt, tt, subst (Lacks a wanted.Key) e (refl, nil_from_length _ (grind (arith, h))))
  tells (Some (keyed, None)) partial a b (c, (k, (e, (d, h)))) =
      let at = key partial a c keyed k in
      (tt, tt, subst (Lacks a wanted.Equals) e (at.1, at.0.1, λ f. grind (arith, nat_tests, h, f)))
  tells (Some (keyed, Some (signed, None))) partial a b (c, (k, (d, (g, (e, (f, h)))))) =
      let at = key partial a c keyed k in
      let on = rw at.1 at (sign partial c d signed g) in
      (tt, tt, subst (Lacks a wanted.Value) e (on.1, at.0.1, on.0, nil_from_length _ (omega (arith, h.1))))
  tells (Some (keyed, Some (signed, Some value))) partial a b (c, (k, (d, (g, h)))) =
      let at = key partial a c keyed k in
      let on = rw at.1 at (sign partial c d signed g) in
      (record { key = at.0; sign = on.0; value = subst (λ p. IsPart is_slice is_in_line p value) on.1 (h.0, λ e. omega (arith, h.2, ap length e)) }, h.1 ∙ ap (behind is_in_line) on.1, tt)
