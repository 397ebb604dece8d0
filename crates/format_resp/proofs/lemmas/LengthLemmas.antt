-- Whether a text is a length.
use Rattle.std.proofs.Common.{◌≡◌, ℕ, ◌<◌, ◌^◌, List, [], ◌∷◌, inl, inr, Some, ap, sym, ◌∙◌, subst, refl, arith}
use Rattle.std.specs.Prelude.{◌⊎◌, decimal}
use Rattle.std.specs.Str.Parse.{digits_value}
use Rattle.std.proofs.lemmas.Bool.Decides.{eqb_tells, leb_tells}
use Rattle.std.proofs.lemmas.Fmt.{decimal_is_IsNumeral}
use Rattle.format_lemmas.proofs.lemmas.ByteLemmas.{heads, tails}
use Rattle.format_resp.specs.Language.{IsLength, greatest_count}
use Rattle.format_resp.proofs.lemmas.AheadLemmas.{conses}

-- two lists are equal, or not
same-list : (xs ys : List ℕ) → (xs ≡ ys) ⊎ ¬ (xs ≡ ys)
same-list [] [] = inl refl
same-list [] (y ∷ ys) = inr (λ e. cc)
same-list (x ∷ xs) [] = inr (λ e. cc)
same-list (x ∷ xs) (y ∷ ys) = elim (eqb_tells x y) [
  | inl (_, e) ↦ elim (same-list xs ys) [
    | inl f ↦ inl (conses x y xs ys e f)
    | inr other ↦ inr (λ g. other (tails x y xs ys g))
  ]
  | inr (_, other) ↦ inr (λ g. other (heads x y xs ys g))
]

-- the number that std writes so is the one of the digits
pub written-value : (text : List ℕ) (m : ℕ) → m < 2 ^ 64 → text ≡ decimal m
    → digits_value 10 text ≡ m
written-value text m small e = subst (λ t. digits_value 10 t ≡ m) (sym e) (decimal_is_IsNumeral m small).1

-- a text is a length, or it is none
pub length-decided : (text : List ℕ)
    → ((n : ℕ) × IsLength greatest_count text (Some n))
    ⊎ ((n : ℕ) → ¬ (IsLength greatest_count text (Some n)))
length-decided text =
    let v = digits_value 10 text in
    elim (same-list text (decimal v)) [
      | inl e ↦ elim (leb_tells v greatest_count) [
        | inl (_, le) ↦ inl (v, (le, omega (arith, le), e))
        | inr (_, l) ↦ inr (λ n h. absurd (omega (arith, l, h.0, written-value text n h.1 h.2)))
      ]
      | inr other ↦ inr (λ n h. other (h.2 ∙ ap decimal (sym (written-value text n h.1 h.2))))
    ]
