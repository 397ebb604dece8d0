-- Cases of more tags than one, whose values keep the tag.
use Rattle.std.specs.Prelude.{◌≡◌, ℕ, ◌≤◌, List, ◌++◌}
use Rattle.std.proofs.Common.{sym, ◌∙◌}
use Rattle.winnow_codec.specs.Formats.{Spelling, IsFormat, IsEqual}
use Rattle.winnow_codec.specs.FormatRows.{AreBothSame}
use Rattle.winnow_codec.specs.Cases.{AreCases, AreSameCase}
use Rattle.winnow_codec.specs.declared.choice.Choice.{Choice}
use Rattle.winnow_codec.specs.declared.choice.Choice.TheVariants.{First, Other}

-- ---- Any tag

-- after any tag, the value of the format, beside the tag
abbrev pub SpellsAnyOther : {T V : Type 0} → Spelling V → T → Spelling (T × V)
SpellsAnyOther inner tag p bytes = (tag ≡ p.0) × inner p.1 bytes

-- the tag that a value keeps
abbrev pub kept_tag : {T V : Type 0} → T × V → T
kept_tag p = p.0

-- the tags are one, and the values the same
abbrev pub AreSameAfterTag : {T V : Type 0} → (V → V → Type 0) → T × V → T × V → Type 0
AreSameAfterTag same = AreBothSame IsEqual same

pub AreCases-AnyOther : {T V : Type 0} (same : V → V → Type 0) (inner : Spelling V)
    → IsFormat same inner → AreCases {T = T} (AreSameAfterTag same) kept_tag (SpellsAnyOther inner)
AreCases-AnyOther same inner f = record {
  formats = λ tag. record {
    canonical = λ p b c h k. f.canonical p.1 b c h.1 k.1;
    prefix_free = λ p q b c r s h k e.
        let one = f.prefix_free p.1 q.1 b c r s h.1 k.1 e in ((sym h.0 ∙ k.0, one.0), one.1);
  };
  one_tag = λ tag p b h. h.0;
}

-- ---- The tags of a range

-- the tag is neither below the lowest nor above the highest
abbrev pub IsInRange : ℕ → ℕ → ℕ → Type 0
IsInRange lowest highest tag = (lowest ≤ tag) × (tag ≤ highest)

-- after a tag of the range, the value of the format, beside the tag; after another, one of the
-- other cases
abbrev pub SpellsRange : {V W : Type 0} → ℕ → ℕ → Spelling V → (ℕ → Spelling W) → ℕ
    → Spelling (Choice (ℕ × V) W)
SpellsRange lowest highest inner others tag (First p) bytes =
    IsInRange lowest highest tag × SpellsAnyOther inner tag p bytes
SpellsRange lowest highest inner others tag (Other w) bytes =
    (IsInRange lowest highest tag → ⊥) × others tag w bytes

-- the tag of a value
abbrev pub range_tag : {V W : Type 0} → (W → ℕ) → Choice (ℕ × V) W → ℕ
range_tag others (First p) = p.0
range_tag others (Other w) = others w

module _ {V W : Type 0} (lowest highest : ℕ) (same : V → V → Type 0) (inner : Spelling V) (f : IsFormat same inner) (alike : W → W → Type 0) (tag_of : W → ℕ) (others : ℕ → Spelling W) (g : AreCases alike tag_of others) where
  range-canonical : (tag : ℕ) (v : Choice (ℕ × V) W) (b c : List ℕ)
      → SpellsRange lowest highest inner others tag v b
      → SpellsRange lowest highest inner others tag v c → b ≡ c
  range-canonical tag (First p) b c h k = f.canonical p.1 b c h.1.1 k.1.1
  range-canonical tag (Other w) b c h k = (g.formats tag).canonical w b c h.1 k.1

  range-prefix_free : (tag : ℕ) (v w : Choice (ℕ × V) W) (b c r s : List ℕ)
      → SpellsRange lowest highest inner others tag v b
      → SpellsRange lowest highest inner others tag w c → b ++ r ≡ c ++ s
      → AreSameCase (AreSameAfterTag same) alike v w × (b ≡ c)
  range-prefix_free tag (First p) (First q) b c r s h k e =
      let one = f.prefix_free p.1 q.1 b c r s h.1.1 k.1.1 e in ((sym h.1.0 ∙ k.1.0, one.0), one.1)
  range-prefix_free tag (First p) (Other w) b c r s h k e = absurd (k.0 h.0)
  range-prefix_free tag (Other v) (First q) b c r s h k e = absurd (h.0 k.0)
  range-prefix_free tag (Other v) (Other w) b c r s h k e = (g.formats tag).prefix_free v w b c r s h.1 k.1 e

  range-one_tag : (tag : ℕ) (v : Choice (ℕ × V) W) (b : List ℕ)
      → SpellsRange lowest highest inner others tag v b → tag ≡ range_tag tag_of v
  range-one_tag tag (First p) b h = h.1.0
  range-one_tag tag (Other w) b h = g.one_tag tag w b h.1

  pub AreCases-Range : AreCases (AreSameCase (AreSameAfterTag same) alike) (range_tag tag_of)
      (SpellsRange lowest highest inner others)
  AreCases-Range = record {
    formats = λ tag. record { canonical = range-canonical tag; prefix_free = range-prefix_free tag };
    one_tag = range-one_tag;
  }
