-- What writers of items do, from what those of their parts do.
use Rattle.std.proofs.Common.{◌≡◌, ℕ, suc, List, ◌++◌, length, take, Result, Ok, Err, ap, sym, ◌∙◌, subst, refl, append_assoc}
use Rattle.std.proofs.Math.Seq.{take-append_seam}
use Rattle.winnow_codec.specs.Formats.{Spelling}
use Rattle.winnow_codec.specs.Writing.{Writes}
use Rattle.winnow_codec.specs.declared.unwritten.Unwritten.{Unwritten}
use Rattle.winnow_codec.specs.declared.unwritten.Unwritten.TheVariants.{Unspelled, Refused}
use Rattle.format_cbor.specs.Heads.{SpellsHead}
use Rattle.format_cbor.specs.Items.{item_head, SpellsContents, SpellsLayer, SpellsWithin, SpellsItem}
use Rattle.format_cbor.specs.declared.item.Item.{Item}
use Rattle.format_cbor.specs.declared.item.Item.TheViews.{out-Item}

-- no item stands within fewer than 0 others
pub within-none : (longest depth : ℕ) → depth ≡ 0 → (item : Item) (bytes : List ℕ)
    → SpellsWithin longest depth item bytes → ⊥
within-none longest depth e item bytes s = subst (λ d. SpellsWithin longest d item bytes) e s

-- an item within fewer than a number of others is one within at most one less
pub within-written : (longest depth below : ℕ) → depth ≡ suc below → (item : Item)
    (old new : List ℕ)
    (result : Result (Unit {0}) Unwritten) → Writes (SpellsItem longest below) item old result new
    → Writes (SpellsWithin longest depth) item old result new
within-written longest depth below e item old new (Ok done) (bytes, (s, d)) =
    (bytes, (subst (λ n. SpellsWithin longest n item bytes) (sym e) s, d))
within-written longest depth below e item old new (Err Unspelled) h =
    (λ bytes s. h.0 bytes (subst (λ n. SpellsWithin longest n item bytes) e s), h.1)
within-written longest depth below e item old new (Err (Refused r)) h = h

module _ (longest : ℕ) (inner : Spelling Item) (item : Item) (old mid new : List ℕ) where
  -- the head of an item is not written
  pub item-headless : (unwritten : Unwritten)
      → Writes SpellsHead (item_head (out-Item item)) old (Err unwritten) new
      → Writes (SpellsLayer longest inner) item old (Err unwritten) new
  item-headless Unspelled h = (λ bytes (x, y, (i, j, e)). h.0 x i, h.1)
  item-headless (Refused r) h = h

  -- the head of an item is written, and what follows it
  pub item-whole : Writes SpellsHead (item_head (out-Item item)) old (Ok tt) mid
      → Writes (SpellsContents longest inner (item_head (out-Item item))) item mid (Ok tt) new
      → Writes (SpellsLayer longest inner) item old (Ok tt) new
  item-whole (x, (h, e)) (y, (k, d)) = (x ++ y, ((x, y, (h, k, refl)), d ∙ ap (λ l. l ++ y) e ∙ append_assoc old x y))

  -- the head of an item is written, and not what follows it
  pub item-bodiless : (unwritten : Unwritten)
      → Writes SpellsHead (item_head (out-Item item)) old (Ok tt) mid
      → Writes (SpellsContents longest inner (item_head (out-Item item))) item mid (Err unwritten) new
      → Writes (SpellsLayer longest inner) item old (Err unwritten) (take (length old) new)
  item-bodiless Unspelled (x, (h, e)) k =
      (λ bytes (y, z, (i, j, d)). k.0 z j, ap (take (length old)) (k.1 ∙ e) ∙ take-append_seam old x)
  item-bodiless (Refused r) (x, (h, e)) k = ap (take (length old)) (k ∙ e) ∙ take-append_seam old x
