-- An item has one spelling, and no spelling of an item is the front of another's.
use Rattle.std.specs.Prelude.{◌≡◌, ℕ, zero, suc, List, [], ◌++◌, length}
use Rattle.std.proofs.Common.{ap, sym, ◌∙◌, refl, arith}
use Rattle.winnow_codec.specs.Formats.{Spelling, IsFormat, IsEqual}
use Rattle.winnow_codec.specs.Cases.{AreCases, IsFormat-Tagged}
use Rattle.winnow_codec.specs.Lists.{each-canonical, IsFormat-Items}
use Rattle.format_cbor.specs.Heads.{rank, SpellsHead}
use Rattle.format_cbor.specs.HeadLaws.{IsFormat-Head}
use Rattle.format_cbor.specs.Scalars.{head_of}
use Rattle.format_cbor.specs.ScalarLaws.{body-prefix_free}
use Rattle.format_cbor.specs.EntryLaws.{entries-canonical, entries-prefix_free}
use Rattle.format_cbor.specs.Items.{item_head, SpellsInner, SpellsContents, SpellsLayer, SpellsWithin, SpellsItem, AreSameInner, AreSameItem, AreSameWithin, AreSame}
use Rattle.format_cbor.specs.declared.scalar.Scalar.{Scalar}
use Rattle.format_cbor.specs.declared.scalar.Scalar.TheVariants as scalar
use Rattle.format_cbor.specs.declared.item.Item.{Item}
use Rattle.format_cbor.specs.declared.item.Item.TheOpen as open_item
use Rattle.format_cbor.specs.declared.item.Item.TheOpen.{Item-F}
use Rattle.format_cbor.specs.declared.item.Item.TheViews.{out-Item}

-- no scalar has the head of an array, a map or a tag
pub scalar-place : (s : Scalar) → (rank (head_of s).kind ≡ 4 → ⊥)
    × (rank (head_of s).kind ≡ 5 → ⊥) × (rank (head_of s).kind ≡ 6 → ⊥)
scalar-place (scalar.Unsigned n) = (λ e. absurd (omega (arith, e)), λ e. absurd (omega (arith, e)), λ e. absurd (omega (arith, e)))
scalar-place (scalar.Negative n) = (λ e. absurd (omega (arith, e)), λ e. absurd (omega (arith, e)), λ e. absurd (omega (arith, e)))
scalar-place (scalar.Bytes v) = (λ e. absurd (omega (arith, e)), λ e. absurd (omega (arith, e)), λ e. absurd (omega (arith, e)))
scalar-place (scalar.Text v) = (λ e. absurd (omega (arith, e)), λ e. absurd (omega (arith, e)), λ e. absurd (omega (arith, e)))
scalar-place s = (λ e. absurd (omega (arith, e)), λ e. absurd (omega (arith, e)), λ e. absurd (omega (arith, e)))

module _ (longest : ℕ) (same : Item → Item → Type 0) (inner : Spelling Item) (f : IsFormat same inner) where
  inner-canonical : (x : Item-F Item) (b c : List ℕ) → SpellsInner longest inner x b
      → SpellsInner longest inner x c → b ≡ c
  inner-canonical (open_item.Scalar s) b c h k = h.1 ∙ sym k.1
  inner-canonical (open_item.Array items) b c h k = each-canonical same inner f items.items b c h k
  inner-canonical (open_item.Map entries) b c h k = entries-canonical same inner f entries.items [] b c h k
  inner-canonical (open_item.Tagged n item) b c h k = f.canonical _ b c h k

  inner-prefix_free : (x y : Item-F Item) → item_head x ≡ item_head y → (b c r s : List ℕ)
      → SpellsInner longest inner x b → SpellsInner longest inner y c → b ++ r ≡ c ++ s
      → AreSameInner same x y × (b ≡ c)
  inner-prefix_free (open_item.Scalar v) (open_item.Scalar w) e b c r s h k t =
      body-prefix_free longest (head_of v) v w b c r s (refl, h.0, h.1) (e, k.0, k.1) t
  inner-prefix_free (open_item.Scalar v) (open_item.Array w) e b c r s h k t = absurd ((scalar-place v).0 (ap (λ x. rank x.kind) e))
  inner-prefix_free (open_item.Scalar v) (open_item.Map w) e b c r s h k t = absurd ((scalar-place v).1 (ap (λ x. rank x.kind) e))
  inner-prefix_free (open_item.Scalar v) (open_item.Tagged n w) e b c r s h k t = absurd ((scalar-place v).2 (ap (λ x. rank x.kind) e))
  inner-prefix_free (open_item.Array v) (open_item.Scalar w) e b c r s h k t = absurd ((scalar-place w).0 (sym (ap (λ x. rank x.kind) e)))
  inner-prefix_free (open_item.Array v) (open_item.Array w) e b c r s h k t =
      let counts : length w.items ≡ length v.items = sym (ap (λ x. x.argument) e) in
      (IsFormat-Items same inner f (length v.items)).prefix_free v w b c r s (refl, h) (counts, k) t
  inner-prefix_free (open_item.Array v) (open_item.Map w) e b c r s h k t = absurd (omega (arith, ap (λ x. rank x.kind) e))
  inner-prefix_free (open_item.Array v) (open_item.Tagged n w) e b c r s h k t = absurd (omega (arith, ap (λ x. rank x.kind) e))
  inner-prefix_free (open_item.Map v) (open_item.Scalar w) e b c r s h k t = absurd ((scalar-place w).1 (sym (ap (λ x. rank x.kind) e)))
  inner-prefix_free (open_item.Map v) (open_item.Array w) e b c r s h k t = absurd (omega (arith, ap (λ x. rank x.kind) e))
  inner-prefix_free (open_item.Map v) (open_item.Map w) e b c r s h k t =
      let counts : length w.items ≡ length v.items = sym (ap (λ x. x.argument) e) in
      entries-prefix_free same inner f v.items w.items [] b c r s (sym counts) h k t
  inner-prefix_free (open_item.Map v) (open_item.Tagged n w) e b c r s h k t = absurd (omega (arith, ap (λ x. rank x.kind) e))
  inner-prefix_free (open_item.Tagged m v) (open_item.Scalar w) e b c r s h k t = absurd ((scalar-place w).2 (sym (ap (λ x. rank x.kind) e)))
  inner-prefix_free (open_item.Tagged m v) (open_item.Array w) e b c r s h k t = absurd (omega (arith, ap (λ x. rank x.kind) e))
  inner-prefix_free (open_item.Tagged m v) (open_item.Map w) e b c r s h k t = absurd (omega (arith, ap (λ x. rank x.kind) e))
  inner-prefix_free (open_item.Tagged m v) (open_item.Tagged n w) e b c r s h k t =
      let p = f.prefix_free _ _ b c r s h k t in ((ap (λ x. x.argument) e, p.0), p.1)

  -- what follows each head is a format, and an item has one head
  pub AreCases-Contents : AreCases (AreSameItem same) (λ item. item_head (out-Item item))
      (SpellsContents longest inner)
  AreCases-Contents = record {
    formats = λ head. record {
      canonical = λ v b c h k. inner-canonical (out-Item v) b c h.1 k.1;
      prefix_free = λ v w b c r s h k e. inner-prefix_free (out-Item v) (out-Item w) (sym h.0 ∙ k.0) b c r s h.1 k.1 e;
    };
    one_tag = λ head v b h. h.0;
  }

-- items are a format, where those inside are
pub IsFormat-Layer : (longest : ℕ) (same : Item → Item → Type 0) (inner : Spelling Item)
    → IsFormat same inner → IsFormat (AreSameItem same) (SpellsLayer longest inner)
IsFormat-Layer longest same inner f =
    IsFormat-Tagged IsEqual SpellsHead (λ t u e. e) IsFormat-Head (AreSameItem same) (λ item. item_head (out-Item item)) (SpellsContents longest inner)
    (AreCases-Contents longest same inner f)

-- items within fewer than a number of arrays, maps and tags are a format
pub IsFormat-Within : (longest depth : ℕ)
    → IsFormat (AreSameWithin depth) (SpellsWithin longest depth)
IsFormat-Within longest zero = record {
  canonical = λ v b c h k. absurd h;
  prefix_free = λ v w b c r s h k e. absurd h;
}
IsFormat-Within longest (suc depth) = IsFormat-Layer longest (AreSameWithin depth) (SpellsWithin longest depth) (IsFormat-Within longest depth)

pub IsFormat-Item : (longest depth : ℕ) → IsFormat AreSame (SpellsItem longest depth)
IsFormat-Item longest depth =
    let f = IsFormat-Within longest (suc depth) in
    record {
      canonical = f.canonical;
      prefix_free = λ v w b c r s h k e. let p = f.prefix_free v w b c r s h k e in ((suc depth, p.0), p.1);
    }
