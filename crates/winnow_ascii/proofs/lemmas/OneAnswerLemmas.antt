-- Parsers of numbers have one answer.
use Rattle.std.specs.Prelude.{⊤}
use Rattle.std.proofs.Common.{◌≡◌, ℕ, ◌+◌, None, Some}
use Rattle.winnow_stream.specs.Source.{Source}
use Rattle.winnow_count.specs.Reading.{IsSomeExactly, ReadsAlike}
use Rattle.winnow_parser.specs.Outcome.{Meaning}
use Rattle.winnow_parser.specs.Meanings.{IsForgotten}
use Rattle.winnow_parser.specs.Determined.{IsDetermined, SlicesRespect, Shows, AreSameIfAny, AreBothSame}
use Rattle.winnow_parser.proofs.lemmas.DeterminedLemmas.{determined-maps, determined-pair, determined-alt2}
use Rattle.winnow_parser.proofs.lemmas.ImageLemmas.{determined-opt, determined-verify_map}
use Rattle.winnow_parser.proofs.lemmas.ReadingLemmas.{one-value}
use Rattle.winnow_parser.proofs.lemmas.MadeLemmas.{determined-taken}
use Rattle.winnow_combinator.proofs.lemmas.CombinedLemmas.{determined-appending}
use Rattle.winnow_token.proofs.lemmas.ToldLemmas.{determined-one_of, determined-take_while}
use Rattle.winnow_ascii.specs.Numbers.{Digits, IsDecUint, IsDecInt, ReadAs}
use Rattle.winnow_ascii.specs.HexUint.{IsHexUint}

module _ {S R V T : Type 0} (view : S → V) (is_slice : S → Source T → ℕ → Type 0) (fronts : SlicesRespect is_slice (Shows view)) (reads : S → R → Type 0) (alike : ReadsAlike view reads) where
  -- `ReadAs` has one answer where the inner parser has one
  pub determined-read : (inner : Meaning (Unit {0}) T) → IsDetermined (λ x y. ⊤) inner
      → IsDetermined ◌≡◌ (ReadAs reads is_slice inner)
  determined-read inner d =
      determined-verify_map (λ slice value. IsSomeExactly (reads slice) value) _ (Shows view) ◌≡◌ (one-value view reads alike) (determined-taken is_slice (Shows view) fronts inner (λ x y. ⊤) d)

  -- `IsHexUint` has one answer
  pub determined-hex_uint : (code : T → ℕ) (nibbles : ℕ)
      → IsDetermined ◌≡◌ (IsHexUint reads is_slice code nibbles)
  determined-hex_uint code nibbles =
      determined-verify_map (λ slice value. IsSomeExactly (reads slice) value) _ (Shows view) ◌≡◌ (one-value view reads alike) (determined-take_while is_slice (Shows view) fronts _ 1 (Some (nibbles + 1)))

-- parsers that take one front, though the values of their parts are dropped
module _ {S T : Type 0} (refusable appends : Type 0) (is_slice : S → Source T → ℕ → Type 0) (code : T → ℕ) where
  -- any two values are the same
  abbrev Any : {O : Type 0} → O → O → Type 0
  Any x y = ⊤

  -- `Digits` has one answer, if its slice is dropped
  digits : IsDetermined (AreBothSame ◌≡◌ Any) (Digits is_slice code)
  digits = determined-pair ◌≡◌ Any _ _ (determined-one_of _) (determined-take_while is_slice Any (λ s t a b h k. tt) _ 0 None)

  -- `IsDecUint` has one answer
  pub determined-dec_uint : IsDetermined (λ x y. ⊤) (IsDecUint refusable appends is_slice code)
  determined-dec_uint = determined-appending appends Any _ (determined-alt2 refusable Any _ _
      (determined-maps (AreBothSame ◌≡◌ Any) Any IsForgotten (λ x y p q e u v. tt) _ digits)
      (determined-maps ◌≡◌ Any IsForgotten (λ x y p q e u v. tt) _ (determined-one_of _)))

  -- `IsDecInt` has one answer
  pub determined-dec_int : IsDetermined (λ x y. ⊤) (IsDecInt refusable appends is_slice code)
  determined-dec_int = determined-appending appends Any _ (determined-alt2 refusable Any _ _
      (determined-maps (AreBothSame (AreSameIfAny ◌≡◌) (AreBothSame ◌≡◌ Any)) Any IsForgotten (λ x y p q e u v. tt) _
      (determined-pair (AreSameIfAny ◌≡◌) (AreBothSame ◌≡◌ Any) _ _ (determined-opt _ ◌≡◌ (determined-one_of _)) digits))
      (determined-maps ◌≡◌ Any IsForgotten (λ x y p q e u v. tt) _ (determined-one_of _)))
