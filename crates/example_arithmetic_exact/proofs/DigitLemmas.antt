-- One more digit of a number.
use Rattle.std.proofs.Common.{◌≡◌, ℕ, ◌+◌, ◌*◌, ◌^◌, ◌<◌, Option, Some, None, ap, sym, ◌∙◌, subst, arith}
use Rattle.std.specs.Prelude.{ℤ, pos, ◌+ℤ◌, ◌*ℤ◌, SomeIff, FitsSigned}
use Rattle.std.specs.Int.{w64}
use Rattle.example_arithmetic_exact.specs.Expressions.{IsValue}

-- a number that 64 bits hold, as they hold one with a sign
fits : (n : ℕ) → n < 2 ^ 63 → FitsSigned w64 (pos n)
fits n l = record { sfits = l }

below : (n : ℕ) → FitsSigned w64 (pos n) → n < 2 ^ 63
below n f = f.sfits

-- the value of the longer number, where the product by ten fits
pub digit_added : (n d : ℕ) (m p : ℤ) (r : Option ℤ) → m ≡ pos n → p ≡ m *ℤ pos 10
    → SomeIff r (FitsSigned w64 (p +ℤ pos d)) (p +ℤ pos d) → IsValue (n * 10 + d) r
digit_added n d m p None e f h =
    let is : p +ℤ pos d ≡ pos (n * 10 + d) = ap (λ q. q +ℤ pos d) (f ∙ ap (λ k. k *ℤ pos 10) e) in
    λ l. h (subst (FitsSigned w64) (sym is) (fits (n * 10 + d) l))
digit_added n d m p (Some x) e f h =
    let is : p +ℤ pos d ≡ pos (n * 10 + d) = ap (λ q. q +ℤ pos d) (f ∙ ap (λ k. k *ℤ pos 10) e) in
    (below (n * 10 + d) (subst (FitsSigned w64) is h.0), h.1 ∙ is)

-- where the product does not fit, the longer number is too great
pub product_great : (n d : ℕ) (m : ℤ) → m ≡ pos n → (FitsSigned w64 (m *ℤ pos 10) → ⊥)
    → n * 10 + d < 2 ^ 63 → ⊥
product_great n d m e h l =
    h (subst (λ k. FitsSigned w64 (k *ℤ pos 10)) (sym e) (fits (n * 10) (omega (arith, l))))
