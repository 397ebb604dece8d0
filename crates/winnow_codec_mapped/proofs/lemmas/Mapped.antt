-- Readers of values that stand for those of a format.
use Rattle.std.proofs.Common.{◌≡◌, ℕ, Bool, Option, Some, None}
use Rattle.winnow_parser.specs.Outcome.{Ahead, Backtracks, Gives, Fails}
use Rattle.winnow_codec.specs.Formats.{Spelling, Reads, IsPrefixFree, IsExact}
use Rattle.winnow_codec.proofs.lemmas.Reading.{none-has, none-other}
use Rattle.winnow_codec_mapped.specs.Mapped.{SpellsMapped}

module _ {A V : Type 0} (value_of : A → Option V) (same : A → A → Type 0) (inner : Spelling A) where
  -- a value of the format for which some value stands
  HasValue : Spelling A
  HasValue a bytes = ((v : V) × (value_of a ≡ Some v)) × inner a bytes

  -- a value is read for which none stands
  pub none-mapped : IsExact same → IsPrefixFree same inner → (partial : Bool) (a b : Ahead ℕ)
      (x : A) → value_of x ≡ None → Reads inner partial a (Gives x b)
      → Reads (SpellsMapped value_of inner) partial a (Fails (Backtracks b))
  unfolding HasValue
  none-mapped exact laws partial a b x none h =
      none-has HasValue (SpellsMapped value_of inner) (λ v bytes (y, (e, s)). (y, ((v, e), s))) partial a (Backtracks b)
      (none-other same inner laws HasValue (λ y. y) (λ y bytes s. s.1) partial a b x h
      (λ y bytes s alike. let equal : x ≡ y = exact x y alike in let found = s.0.1 in cc))
