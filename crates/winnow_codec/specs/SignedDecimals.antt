-- Integers in decimal digits, which fill a part.
use Rattle.std.specs.Prelude.{◌≡◌, ℕ, ℤ, pos, negsuc, suc, ◌<◌, ◌^◌, List, ◌∷◌, decimal, drop, FitsSigned}
use Rattle.std.specs.Int.{w64}
use Rattle.std.specs.Fmt.{signed_decimal}
use Rattle.std.proofs.Common.{ap, sym, ◌∙◌, subst, arith}
use Rattle.std.specs.Str.Parse.{AllDigits}
use Rattle.std.proofs.lemmas.Fmt.{decimal_injective, decimal_is_IsNumeral}
use Rattle.std.proofs.lemmas.Str.Parse.{digit_from_value}
use Rattle.winnow_codec.specs.Formats.{Spelling, IsEqual}
use Rattle.winnow_codec.specs.WholeFormats.{IsWhole}

-- the decimal digits of an integer of 64 bits, after a minus where it is below 0, with no plus and
-- no 0 before other digits
abbrev pub SpellsInteger : Spelling ℤ
SpellsInteger n bytes = FitsSigned w64 n × (bytes ≡ signed_decimal n)

-- no digits begin with a minus
no-minus : (n : ℕ) (ds : List ℕ) → n < 2 ^ 64 → decimal n ≡ 45 ∷ ds → ⊥
no-minus n ds h e =
    omega (arith, digit_from_value 45 (subst (AllDigits 10) e (decimal_is_IsNumeral n h).0.1).0)

-- no two integers of 64 bits have the same digits and sign
pub integer-tells : (m n : ℤ) → FitsSigned w64 m → FitsSigned w64 n
    → signed_decimal m ≡ signed_decimal n → m ≡ n
integer-tells (pos m) (pos n) p q e =
    ap pos (decimal_injective m n (omega (arith, p.sfits)) (omega (arith, q.sfits)) e)
integer-tells (pos m) (negsuc n) p q e = absurd (no-minus m _ (omega (arith, p.sfits)) e)
integer-tells (negsuc m) (pos n) p q e = absurd (no-minus n _ (omega (arith, q.sfits)) (sym e))
integer-tells (negsuc m) (negsuc n) p q e =
    ap negsuc (omega (arith, decimal_injective (suc m) (suc n) (omega (arith, p.sfits)) (omega (arith, q.sfits)) (ap (drop 1) e)))

pub IsWhole-Integer : IsWhole IsEqual SpellsInteger
IsWhole-Integer = record {
  canonical = λ v b c h k. h.1 ∙ sym k.1;
  one_value = λ v w b h k. integer-tells v w h.0 k.0 (sym h.1 ∙ k.1);
}
