-- A parser of fields of bits is deterministic, and asks for the missing bytes.
use Rattle.std.specs.Prelude.{◌≡◌, ℕ, ◌/◌, Bool, List, sum}
use Rattle.std.proofs.Common.{refl, sym, subst, inl, inr}
use Rattle.winnow_parser.specs.Outcome.{Cuts, Fails}
use Rattle.winnow_parser.specs.Determined.{Agree, IsDetermined}
use Rattle.winnow_token.specs.Prompt.{IsPrompt}
use Rattle.winnow_binary.specs.declared.endianness.Endianness.{Endianness}
use Rattle.winnow_binary.proofs.lemmas.NumberLemmas.{determined-numeral, prompt-numeral}
use Rattle.winnow_binary.specs.Fields.{fields_in}
use Rattle.winnow_binary.specs.BitFields.{IsBitFields}

module _ (counts_shortage : Bool) (order : Endianness) (widths : List ℕ) where
  -- `IsBitFields` is deterministic
  pub determined-bit_fields : IsDetermined (λ x y. x ≡ y) (IsBitFields counts_shortage order widths)
  determined-bit_fields partial a v w s t (inl h) (inl k) =
      determined-numeral counts_shortage (sum widths / 8) (fields_in order widths) order partial a v w s t h.1 k.1
  determined-bit_fields partial a v w s t (inl h) (inr k) = absurd (k.0 h.0)
  determined-bit_fields partial a v w s t (inr h) (inl k) = absurd (h.0 k.0)
  determined-bit_fields partial a v w s t (inr h) (inr k) =
      subst (λ u. Agree (λ x y. x ≡ y) u w) (sym h.1) (subst (Agree (λ x y. x ≡ y) (Fails (Cuts a))) (sym k.1) refl)

  -- if `IsBitFields` needs k more bytes, no result is definite before k have come
  pub prompt-bit_fields : IsPrompt (IsBitFields counts_shortage order widths)
  prompt-bit_fields a n more v (inl h) l (inl k) =
      prompt-numeral counts_shortage (sum widths / 8) (fields_in order widths) order a n more v h.1 l k.1
  prompt-bit_fields a n more v (inl h) l (inr k) = absurd (k.0 h.0)
  prompt-bit_fields a n more v (inr h) l k = absurd (cc)
