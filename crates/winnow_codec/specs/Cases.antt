-- What a tag says of how the rest is spelled.
use Rattle.std.specs.Prelude.{◌≡◌, ℕ, List, ◌++◌}
use Rattle.std.proofs.Common.{sym, subst}
use Rattle.winnow_codec.specs.Formats.{Spelling, IsFormat}
use Rattle.winnow_codec.specs.FormatRows.{SpellsBoth, AreBothSame, IsFormat-Both}
use Rattle.winnow_codec.specs.FormatParts.{SpellsParts, IsFormat-Parts}
use Rattle.winnow_codec.specs.declared.choice.Choice.{Choice}
use Rattle.winnow_codec.specs.declared.choice.Choice.TheVariants.{First, Other}

-- the laws of cases: what follows each tag is a format, and a value has one tag
pub record AreCases {T V : Type 0} (same : V → V → Type 0) (tag_of : V → T) (spells : T → Spelling V) : Type 0 where
  pub formats : (tag : T) → IsFormat same (spells tag)
  pub one_tag : (tag : T) (v : V) (bytes : List ℕ) → spells tag v bytes → tag ≡ tag_of v

-- ---- One case

-- after this tag, the value of the format
abbrev pub SpellsLast : {T V : Type 0} → T → Spelling V → T → Spelling V
SpellsLast own inner tag v bytes = (tag ≡ own) × inner v bytes

-- the tag of each value
abbrev pub only_tag : {T V : Type 0} → T → V → T
only_tag own v = own

pub AreCases-Last : {T V : Type 0} (own : T) (same : V → V → Type 0) (inner : Spelling V)
    → IsFormat same inner → AreCases same (only_tag own) (SpellsLast own inner)
AreCases-Last own same inner f = record {
  formats = λ tag. record {
    canonical = λ v b c h k. f.canonical v b c h.1 k.1;
    prefix_free = λ v w b c r s h k. f.prefix_free v w b c r s h.1 k.1;
  };
  one_tag = λ tag v b h. h.0;
}

-- ---- One case and others

-- after this tag, the value of the format; after another, one of the other cases
abbrev pub SpellsCase : {T V W : Type 0} → T → Spelling V → (T → Spelling W) → T → Spelling
    (Choice V W)
SpellsCase own inner others tag (First v) bytes = (tag ≡ own) × inner v bytes
SpellsCase own inner others tag (Other w) bytes = (tag ≡ own → ⊥) × others tag w bytes

-- the values are of one case, and the same
abbrev pub AreSameCase : {V W : Type 0} → (V → V → Type 0) → (W → W → Type 0) → Choice V W
    → Choice V W → Type 0
AreSameCase same alike (First v) (First w) = same v w
AreSameCase same alike (First v) (Other w) = ⊥
AreSameCase same alike (Other v) (First w) = ⊥
AreSameCase same alike (Other v) (Other w) = alike v w

-- the tag of a value
abbrev pub case_tag : {T V W : Type 0} → T → (W → T) → Choice V W → T
case_tag own others (First v) = own
case_tag own others (Other w) = others w

module _ {T V W : Type 0} (own : T) (same : V → V → Type 0) (inner : Spelling V) (f : IsFormat same inner) (alike : W → W → Type 0) (tag_of : W → T) (others : T → Spelling W) (g : AreCases alike tag_of others) where
  case-canonical : (tag : T) (v : Choice V W) (b c : List ℕ) → SpellsCase own inner others tag v b
      → SpellsCase own inner others tag v c → b ≡ c
  case-canonical tag (First v) b c h k = f.canonical v b c h.1 k.1
  case-canonical tag (Other v) b c h k = (g.formats tag).canonical v b c h.1 k.1

  case-prefix_free : (tag : T) (v w : Choice V W) (b c r s : List ℕ)
      → SpellsCase own inner others tag v b
      → SpellsCase own inner others tag w c → b ++ r ≡ c ++ s → AreSameCase same alike v w × (b ≡ c)
  case-prefix_free tag (First v) (First w) b c r s h k e = f.prefix_free v w b c r s h.1 k.1 e
  case-prefix_free tag (First v) (Other w) b c r s h k e = absurd (k.0 h.0)
  case-prefix_free tag (Other v) (First w) b c r s h k e = absurd (h.0 k.0)
  case-prefix_free tag (Other v) (Other w) b c r s h k e = (g.formats tag).prefix_free v w b c r s h.1 k.1 e

  case-one_tag : (tag : T) (v : Choice V W) (b : List ℕ) → SpellsCase own inner others tag v b
      → tag ≡ case_tag own tag_of v
  case-one_tag tag (First v) b h = h.0
  case-one_tag tag (Other v) b h = g.one_tag tag v b h.1

  pub AreCases-Case : AreCases (AreSameCase same alike) (case_tag own tag_of)
      (SpellsCase own inner others)
  AreCases-Case = record {
    formats = λ tag. record { canonical = case-canonical tag; prefix_free = case-prefix_free tag };
    one_tag = case-one_tag;
  }

-- ---- A tag, and then what it says

-- a value and its tag
abbrev pub with_tag : {T V : Type 0} → (V → T) → V → T × V
with_tag tag_of v = (tag_of v, v)

-- the tag of the value, and then the value
abbrev pub SpellsTagged : {T V : Type 0} → Spelling T → (V → T) → (T → Spelling V) → Spelling V
SpellsTagged tags tag_of cases = SpellsParts (with_tag tag_of) (SpellsBoth tags cases)

pub IsFormat-Tagged : {T V : Type 0} (alike : T → T → Type 0) (tags : Spelling T)
    → ((t u : T) → alike t u → t ≡ u) → IsFormat alike tags
    → (same : V → V → Type 0) (tag_of : V → T) (cases : T → Spelling V) → AreCases same tag_of cases
    → IsFormat same (SpellsTagged tags tag_of cases)
IsFormat-Tagged alike tags exact f same tag_of cases g =
    let h = IsFormat-Parts (with_tag tag_of) (AreBothSame alike same) (SpellsBoth tags cases) (IsFormat-Both alike same tags cases f g.formats (λ t u v bytes e k. subst (λ x. cases x v bytes) (sym (exact t u e)) k)) in
    record {
      canonical = h.canonical;
      prefix_free = λ v w b c r s i j e. let p = h.prefix_free v w b c r s i j e in (p.0.1, p.1);
    }
