-- The bits of bytes: the facts that a stream of bits needs for the laws of `Stream`.
use Rattle.std.specs.Prelude.{◌≡◌, ℕ, ◌-◌, ◌*◌, List, [], ◌∷◌, length, map, drop, refl}
use Rattle.std.proofs.Common.{arith, ap, ap₂, sym, ◌∙◌}
use Rattle.std.proofs.lemmas.List.{length-drop, length-map}
use Rattle.winnow_stream.specs.Source.{Source, units, width, HasPositiveWidths}
use Rattle.winnow_stream.specs.Longer.{SlicesStay, front-longer}
use Rattle.winnow_stream.specs.Units.{width-units, HasPositiveWidths-units}
use Rattle.winnow_views.specs.declared.bits.Bits.{Bits}
use Rattle.winnow_views.specs.BitSource.{HasUnits, bits_of, bits_from, IsBitSlice}
use Rattle.winnow_views.specs.BitStream.{bits_remaining, IsValidBits}

-- each byte has eight bits
pub length-bits_of : (bytes : List (ℕ × ℕ)) → length (bits_of bytes) ≡ 8 * length bytes
length-bits_of [] = refl
length-bits_of (x ∷ xs) = omega (arith, length-bits_of xs)

module _ {T : Type 0} where
  -- tokens of width 1 are the units of their elements
  pub units-HasUnits : (r : List (T × ℕ)) → HasUnits r → r ≡ units (map (λ x. x.0) r)
  units-HasUnits [] h = refl
  units-HasUnits (x ∷ xs) h = ap (λ w. (x.0, w) ∷ xs) h.0 ∙ ap (λ ys. (x.0, 1) ∷ ys) (units-HasUnits xs h.1)

  -- the width of tokens of width 1 is their number
  pub width-HasUnits : (r : List (T × ℕ)) → HasUnits r → width r ≡ length r
  width-HasUnits r h = ap width (units-HasUnits r h) ∙ width-units (map (λ x. x.0) r) ∙ length-map r (λ x. x.0)

-- the number of bits from a place on
pub length-bits_past : (bytes : List (ℕ × ℕ)) (place : ℕ)
    → length (drop place (bits_of bytes)) ≡ 8 * length bytes - place
length-bits_past bytes place = omega (arith, length-drop place (bits_of bytes), length-bits_of bytes)

-- the same as a width
pub width-bits_from : (bytes : List (ℕ × ℕ)) (place : ℕ)
    → width (bits_from bytes place) ≡ 8 * length bytes - place
width-bits_from bytes place = width-units (drop place (bits_of bytes)) ∙ length-bits_past bytes place

-- bits meet the law of positive widths
pub HasPositiveWidths-bits_from : (bytes : List (ℕ × ℕ)) (place : ℕ)
    → HasPositiveWidths (bits_from bytes place)
HasPositiveWidths-bits_from bytes place = HasPositiveWidths-units (drop place (bits_of bytes))

-- the width that `Rest` gives is the width of the bits
pub rest_width-bits_from : (bytes : List (ℕ × ℕ)) (place rest_width : ℕ) → HasUnits bytes
    → rest_width ≡ width bytes → 8 * rest_width - place ≡ width (bits_from bytes place)
rest_width-bits_from bytes place rest_width h e = omega (arith, e, width-HasUnits bytes h, width-bits_from bytes place)

module _ {I : Type 0} (remaining : I → Source ℕ) (s t : Bits I) where
  -- the same bytes and the same place have the same bits
  pub bits_remaining-same : remaining t.input ≡ remaining s.input → s.place ≡ t.place
      → bits_remaining remaining t ≡ bits_remaining remaining s
  bits_remaining-same e p = ap₂ bits_from e (sym p)

module _ {I : Type 0} (valid : I → Type 0) (remaining : I → Source ℕ) (s t : Bits I) where
  -- the same bytes and the same place are valid together
  pub IsValidBits-same : remaining t.input ≡ remaining s.input → (valid s.input → valid t.input)
      → s.place ≡ t.place → IsValidBits valid remaining s → IsValidBits valid remaining t
  IsValidBits-same e v p h = (v h.0, rw (e, sym p) h.1)

-- a slice of bits is that slice of each longer list
pub SlicesStay-bits : {S : Type 0} (is_slice : S → Source ℕ → ℕ → Type 0)
    → SlicesStay (IsBitSlice is_slice)
SlicesStay-bits is_slice s r more n offset h = (h.0, h.1, h.2, front-longer r more n offset ∙ h.3, h.4)
