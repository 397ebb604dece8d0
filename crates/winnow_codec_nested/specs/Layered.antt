-- Values that hold values of their own type, to a depth.
use Rattle.std.specs.Prelude.{◌≡◌, ℕ, zero, suc, List, [], ◌∷◌, Vec, Result, Ok, Err, ⊤}
use Rattle.std.specs.declared.alloc.Global.{Global}
use Rattle.std.proofs.Common.{ap, sym, ◌∙◌}
use Rattle.winnow_codec.specs.Formats.{Spelling, IsFormat, IsExact}
use Rattle.winnow_codec.specs.FormatParts.{SpellsParts, IsFormat-Parts}
use Rattle.winnow_codec.specs.FormatRows.{SpellsBoth, AreBothSame, ChoosesBySame, IsFormat-Both}
use Rattle.winnow_codec.specs.Lists.{SpellsTimes, AreSameEach, IsFormat-Times}

-- the head of a value, and the values that it holds
abbrev pub layer_of : {H V : Type 0} → (V → H) → (V → List V) → V → H × List V
layer_of head_of inners v = (head_of v, inners v)

-- the spelling of a head, and then of as many values as it says
abbrev pub SpellsLayer : {H V : Type 0} → Spelling H → (V → H) → (V → List V) → (H → ℕ)
    → Spelling V → Spelling V
SpellsLayer heads head_of inners count inner =
    SpellsParts (layer_of head_of inners) (SpellsBoth heads (λ h. SpellsTimes inner (count h)))

-- the spelling of a value in at most this many layers: none in none
abbrev pub SpellsNested : {H V : Type 0} → Spelling H → (V → H) → (V → List V) → (H → ℕ)
    → ℕ → Spelling V
SpellsNested heads head_of inners count zero v bytes = ⊥
SpellsNested heads head_of inners count (suc depth) v bytes =
    SpellsLayer heads head_of inners count (SpellsNested heads head_of inners count depth) v bytes

-- in this many layers the values have the same heads, and hold as many values, each the same
abbrev pub AreSameDown : {H V : Type 0} → (H → H → Type 0) → (V → H) → (V → List V) → ℕ → V → V
    → Type 0
AreSameDown alike head_of inners zero v w = ⊤
AreSameDown alike head_of inners (suc depth) v w = alike (head_of v) (head_of w)
    × AreSameEach (AreSameDown alike head_of inners depth) (inners v) (inners w)

-- the values are the same in all layers
abbrev pub AreSameNested : {H V : Type 0} → (H → H → Type 0) → (V → H) → (V → List V) → V → V
    → Type 0
AreSameNested alike head_of inners v w = (depth : ℕ) → AreSameDown alike head_of inners depth v w

-- heads that are the same say of the same number of values
abbrev pub CountsAlike : {H : Type 0} → (H → H → Type 0) → (H → ℕ) → Type 0
CountsAlike {H} alike count = (h k : H) → alike h k → count h ≡ count k

-- heads that are the same only where they are equal do
pub CountsAlike-Exact : {H : Type 0} (alike : H → H → Type 0) (count : H → ℕ) → IsExact alike
    → CountsAlike alike count
CountsAlike-Exact alike count exact h k e = ap count (exact h k e)

-- the values of a vector, where one was returned
abbrev pub listed : {V F : Type 0} → Result (Vec V Global) F → Result (List V) F
listed (Ok vs) = Ok vs.items
listed (Err f) = Err f

module _ {H V : Type 0} (alike : H → H → Type 0) (heads : Spelling H) (head_of : V → H) (inners : V → List V) (count : H → ℕ) where
  -- what is the same in all layers is so in some
  each-down : (depth : ℕ) (vs ws : List V) → AreSameEach (AreSameNested alike head_of inners) vs ws
      → AreSameEach (AreSameDown alike head_of inners depth) vs ws
  each-down depth [] [] h = tt
  each-down depth [] (w ∷ ws) h = absurd h
  each-down depth (v ∷ vs) [] h = absurd h
  each-down depth (v ∷ vs) (w ∷ ws) h = (h.0 depth, each-down depth vs ws h.1)

  same-layer : (v w : V)
      → AreBothSame alike (AreSameEach (AreSameNested alike head_of inners)) (layer_of head_of inners v) (layer_of head_of inners w)
      → AreSameNested alike head_of inners v w
  same-layer v w h zero = tt
  same-layer v w h (suc depth) = (h.0, each-down depth (inners v) (inners w) h.1)

  -- heads that are the same are followed by the same
  pub chooses : CountsAlike alike count → (inner : Spelling V)
      → ChoosesBySame alike (λ h. SpellsTimes inner (count h))
  chooses counts inner m n vs bytes e k = (k.0 ∙ sym (counts m n e), k.1)

  module _ (counts : CountsAlike alike count) (f : IsFormat alike heads) where
    layer-format : (inner : Spelling V) → IsFormat (AreSameNested alike head_of inners) inner
        → IsFormat (AreSameNested alike head_of inners) (SpellsLayer heads head_of inners count inner)
    layer-format inner g =
        let same = AreSameEach (AreSameNested alike head_of inners) in
        let both = IsFormat-Both alike same heads (λ h. SpellsTimes inner (count h)) f
        (λ h. IsFormat-Times (AreSameNested alike head_of inners) inner g (count h)) (chooses counts inner) in
        let laws = IsFormat-Parts (layer_of head_of inners) (AreBothSame alike same) (SpellsBoth heads (λ h. SpellsTimes inner (count h))) both in
        record {
          canonical = laws.canonical;
          prefix_free = λ v w b c r s h k e.
              let p = laws.prefix_free v w b c r s h k e in (same-layer v w p.0, p.1);
        }

    -- values that are nested have the laws of a format
    pub IsFormat-Nested : (depth : ℕ)
        → IsFormat (AreSameNested alike head_of inners) (SpellsNested heads head_of inners count depth)
    IsFormat-Nested zero = record {
      canonical = λ v b c h k. absurd h;
      prefix_free = λ v w b c r s h k e. absurd h;
    }
    IsFormat-Nested (suc depth) =
        let laws = layer-format (SpellsNested heads head_of inners count depth) (IsFormat-Nested depth) in
        record {
          canonical = laws.canonical;
          prefix_free = laws.prefix_free;
        }
