-- Numbers in decimal digits, which fill a part.
use Rattle.std.specs.Prelude.{◌≡◌, ℕ, ◌<◌, ◌^◌, decimal}
use Rattle.std.specs.Str.Parse.{digits_value}
use Rattle.std.proofs.Common.{ap, sym, ◌∙◌}
use Rattle.std.proofs.lemmas.Fmt.{decimal_is_IsNumeral}
use Rattle.winnow_codec.specs.Formats.{Spelling, IsEqual}
use Rattle.winnow_codec.specs.WholeFormats.{IsWhole}

-- the decimal digits of a number of 64 bits, with no 0 before them
abbrev pub SpellsDecimal : Spelling ℕ
SpellsDecimal n bytes = (n < 2 ^ 64) × (bytes ≡ decimal n)

pub IsWhole-Decimal : IsWhole IsEqual SpellsDecimal
IsWhole-Decimal = record {
  canonical = λ v b c h k. h.1 ∙ sym k.1;
  one_value = λ v w b h k.
      sym (decimal_is_IsNumeral v h.0).1 ∙ ap (digits_value 10) (sym h.1 ∙ k.1) ∙ (decimal_is_IsNumeral w k.0).1;
}
