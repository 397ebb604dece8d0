-- One of two formats.
use Rattle.std.specs.Prelude.{◌≡◌, ◌⊎◌}
use Rattle.std.proofs.Common.{inl, inr}
use Rattle.winnow_codec.specs.Formats.{Spelling, IsFormat, IsExact}
use Rattle.winnow_codec.specs.declared.either.EitherFormat.{EitherFormat}
use Rattle.winnow_codec.specs.declared.either.EitherFormat.TheVariants.{Left, Right}

-- the spelling of the format that it is
abbrev pub SpellsEither : {A B V : Type 0} → (A → Spelling V) → (B → Spelling V) → EitherFormat A B
    → Spelling V
SpellsEither left right (Left a) v bytes = left a v bytes
SpellsEither left right (Right b) v bytes = right b v bytes

-- the values are the same for one of the formats
abbrev pub AreSameEither : {V : Type 0} → (V → V → Type 0) → (V → V → Type 0) → V → V → Type 0
AreSameEither same alike v w = same v w ⊎ alike v w

pub IsFormat-Either : {A B V : Type 0} (same : V → V → Type 0) (left : A → Spelling V)
    → ((a : A) → IsFormat same (left a)) → (alike : V → V → Type 0) (right : B → Spelling V)
    → ((b : B) → IsFormat alike (right b)) → (f : EitherFormat A B)
    → IsFormat (AreSameEither same alike) (SpellsEither left right f)
IsFormat-Either same left h alike right k (Left a) = record {
  canonical = (h a).canonical;
  prefix_free = λ v w b c r s i j e. let p = (h a).prefix_free v w b c r s i j e in (inl p.0, p.1);
}
IsFormat-Either same left h alike right k (Right b) = record {
  canonical = (k b).canonical;
  prefix_free = λ v w x c r s i j e. let p = (k b).prefix_free v w x c r s i j e in (inr p.0, p.1);
}

-- if the values of both are the same only where they are equal, so are those of either
pub IsExact-Either : {V : Type 0} (same alike : V → V → Type 0) → IsExact same → IsExact alike
    → IsExact (AreSameEither same alike)
IsExact-Either same alike f g v w (inl h) = f v w h
IsExact-Either same alike f g v w (inr h) = g v w h
