-- The parser of fields of bits, which fill whole bytes together.
use Rattle.std.specs.Prelude.{◌≡◌, ℕ, ◌/◌, Bool, List, sum, ◌⊎◌}
use Rattle.std.proofs.Common.{ap, sym, subst, refl, inl, inr}
use Rattle.winnow_parser.specs.Outcome.{Cuts, Fails, Meaning}
use Rattle.winnow_parser.specs.Laws.{outcome_longer, IsStable, IsFinal, LeavesAfter, IsOnward, IsParser}
use Rattle.winnow_parser.specs.Parts.{Moves-still}
use Rattle.winnow_binary.specs.declared.endianness.Endianness.{Endianness}
use Rattle.winnow_binary.specs.Numerals.{FixedNumeral, IsParser-FixedNumeral}
use Rattle.winnow_binary.specs.Fields.{fields_in, FillBytes}

-- the fields of the number that the next bytes write, as many bytes as the fields fill; if they
-- fill no whole bytes, the parser cuts at once
abbrev pub IsBitFields : Bool → Endianness → List ℕ → Meaning (List ℕ) ℕ
IsBitFields counts_shortage order widths partial a v = (FillBytes widths
    × FixedNumeral counts_shortage (sum widths / 8) (fields_in order widths) order partial a v)
    ⊎ (¬ FillBytes widths × (v ≡ Fails (Cuts a)))

-- ---- The laws

module _ (counts_shortage : Bool) (order : Endianness) (widths : List ℕ) where
  -- the fields of a number keep the laws of a parser
  numeral : IsParser (FixedNumeral counts_shortage (sum widths / 8) (fields_in order widths) order)
  numeral = IsParser-FixedNumeral counts_shortage (sum widths / 8) (fields_in order widths) order

  -- a settled answer of `IsBitFields` stays when more input follows
  fields-stable : IsStable (IsBitFields counts_shortage order widths)
  fields-stable more partial a v s (inl h) = inl (h.0, numeral.stable more partial a v s h.1)
  fields-stable more partial a v s (inr h) = inr (h.0, ap (outcome_longer more) h.1)

  -- `IsBitFields` needs nothing more where nothing more may follow
  fields-final : IsFinal (IsBitFields counts_shortage order widths)
  fields-final a n (inl h) = numeral.final a n h.1
  fields-final a n (inr h) = cc

  -- `IsBitFields` only moves the stream on
  fields-onward : IsOnward (IsBitFields counts_shortage order widths)
  fields-onward partial a v (inl h) = numeral.onward partial a v h.1
  fields-onward partial a v (inr h) = subst (LeavesAfter a) (sym h.1) (Moves-still a a refl)

  -- `IsBitFields` keeps the laws of a parser
  pub IsParser-IsBitFields : IsParser (IsBitFields counts_shortage order widths)
  IsParser-IsBitFields = record { stable = fields-stable; final = fields-final; onward = fields-onward }
