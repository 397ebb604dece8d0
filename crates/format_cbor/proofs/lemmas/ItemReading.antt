-- What readers and writers of items do, from what those of their parts do.
use Rattle.std.proofs.Common.{◌≡◌, ℕ, suc, Bool, List, length, Result, Ok, Err, ap, sym, ◌∙◌, subst, refl, arith, rules}
use Rattle.std.specs.Prelude.{Vec, Box, box_value}
use Rattle.std.specs.declared.alloc.Global.{Global}
use Rattle.winnow_parser.specs.Outcome.{Ahead, Failed, Backtracks, Outcome, Gives, Fails}
use Rattle.winnow_parser.specs.Parts.{Moves-still}
use Rattle.winnow_codec.specs.Formats.{Spelling, Reads, IsFormat, IsEqual}
use Rattle.winnow_codec.specs.FormatRows.{SpellsBoth}
use Rattle.winnow_codec.specs.Cases.{with_tag}
use Rattle.winnow_codec.specs.Lists.{SpellsItems}
use Rattle.winnow_codec.specs.Writing.{Writes}
use Rattle.winnow_codec.specs.declared.unwritten.Unwritten.{Unwritten}
use Rattle.winnow_codec.specs.declared.unwritten.Unwritten.TheVariants.{Unspelled, Refused}
use Rattle.winnow_codec.proofs.lemmas.Reading.{none-has, parts-unread, both-unbegun}
use Rattle.winnow_codec.proofs.lemmas.Tags as tags
use Rattle.format_cbor.specs.Heads.{rank, SpellsHead}
use Rattle.format_cbor.specs.HeadLaws.{IsFormat-Head}
use Rattle.format_cbor.specs.Scalars.{SpellsBody}
use Rattle.format_cbor.specs.Entries.{SpellsMap}
use Rattle.format_cbor.specs.Items.{item_head, SpellsInner, SpellsContents, SpellsLayer, SpellsWithin, SpellsItem, AreSameItem}
use Rattle.format_cbor.specs.ItemLaws.{scalar-place, AreCases-Contents}
use Rattle.format_cbor.proofs.lemmas.ItemWriting.{within-none}
use Rattle.format_cbor.specs.declared.head.Head.{Head}
use Rattle.format_cbor.specs.declared.head.Kind.TheVariants as kind
use Rattle.format_cbor.specs.declared.scalar.Scalar.{Scalar}
use Rattle.format_cbor.specs.declared.item.Item.{Item}
use Rattle.format_cbor.specs.declared.item.Item.TheOpen as open_item
use Rattle.format_cbor.specs.declared.item.Item.TheOpen.{Item-F}
use Rattle.format_cbor.specs.declared.item.Item.TheVariants as item
use Rattle.format_cbor.specs.declared.item.Item.TheViews.{out-Item, the_lemmas}

-- ---- The layer of an item

pub out-scalar : (s : Scalar) → out-Item (item.Scalar s) ≡ open_item.Scalar s
out-scalar s = search (rules, the_lemmas)

pub out-array : (vs : Vec Item Global) → out-Item (item.Array vs) ≡ open_item.Array vs
out-array vs = search (rules, the_lemmas)

pub out-map : (es : Vec (Item × Item) Global) → out-Item (item.Map es) ≡ open_item.Map es
out-map es = search (rules, the_lemmas)

pub out-tagged : (n : ℕ) (x : Box Item Global) → out-Item (item.Tagged n x) ≡ open_item.Tagged n x
out-tagged n x = search (rules, the_lemmas)

module _ (longest : ℕ) (inner : Spelling Item) (head : Head) where
  -- what spells a layer after a head spells its item
  layer-spelled : (v : Item) (x : Item-F Item) → out-Item v ≡ x → head ≡ item_head x
      → (bytes : List ℕ)
      → SpellsInner longest inner x bytes → SpellsContents longest inner head v bytes
  layer-spelled v x e h bytes s = subst (λ y. (head ≡ item_head y) × SpellsInner longest inner y bytes) (sym e) (h, s)

  -- the place of a head's kind is that of a layer's
  same-place : (x : Item-F Item) → head ≡ item_head x → rank head.kind ≡ rank (item_head x).kind
  same-place x h = ap (λ y. rank y.kind) h

  array-only : head.kind ≡ kind.Array → (x : Item-F Item) (bytes : List ℕ) → head ≡ item_head x
      → SpellsInner longest inner x bytes
      → (v : Vec Item Global) × SpellsItems inner head.argument v bytes
  array-only is (open_item.Scalar s) bytes h k = absurd ((scalar-place s).0 (sym (same-place (open_item.Scalar s) h) ∙ ap rank is))
  array-only is (open_item.Array vs) bytes h k = (vs, (sym (ap (λ y. y.argument) h), k))
  array-only is (open_item.Map es) bytes h k = absurd (omega (arith, same-place (open_item.Map es) h, ap rank is))
  array-only is (open_item.Tagged n v) bytes h k = absurd (omega (arith, same-place (open_item.Tagged n v) h, ap rank is))

  map-only : head.kind ≡ kind.Map → (x : Item-F Item) (bytes : List ℕ) → head ≡ item_head x
      → SpellsInner longest inner x bytes
      → (v : Vec (Item × Item) Global) × SpellsMap inner head.argument v bytes
  map-only is (open_item.Scalar s) bytes h k = absurd ((scalar-place s).1 (sym (same-place (open_item.Scalar s) h) ∙ ap rank is))
  map-only is (open_item.Array vs) bytes h k = absurd (omega (arith, same-place (open_item.Array vs) h, ap rank is))
  map-only is (open_item.Map es) bytes h k = (es, (sym (ap (λ y. y.argument) h), k))
  map-only is (open_item.Tagged n v) bytes h k = absurd (omega (arith, same-place (open_item.Tagged n v) h, ap rank is))

  tagged-only : head.kind ≡ kind.Tag → (x : Item-F Item) (bytes : List ℕ) → head ≡ item_head x
      → SpellsInner longest inner x bytes → (v : Item) × inner v bytes
  tagged-only is (open_item.Scalar s) bytes h k = absurd ((scalar-place s).2 (sym (same-place (open_item.Scalar s) h) ∙ ap rank is))
  tagged-only is (open_item.Array vs) bytes h k = absurd (omega (arith, same-place (open_item.Array vs) h, ap rank is))
  tagged-only is (open_item.Map es) bytes h k = absurd (omega (arith, same-place (open_item.Map es) h, ap rank is))
  tagged-only is (open_item.Tagged n v) bytes h k = (box_value v, k)

  scalar-only : (head.kind ≡ kind.Array → ⊥) → (head.kind ≡ kind.Map → ⊥)
      → (head.kind ≡ kind.Tag → ⊥)
      → (x : Item-F Item) (bytes : List ℕ) → head ≡ item_head x
      → SpellsInner longest inner x bytes → (s : Scalar) × SpellsBody longest head s bytes
  scalar-only na nm nt (open_item.Scalar s) bytes h k = (s, (h, k.0, k.1))
  scalar-only na nm nt (open_item.Array vs) bytes h k = absurd (na (ap (λ y. y.kind) h))
  scalar-only na nm nt (open_item.Map es) bytes h k = absurd (nm (ap (λ y. y.kind) h))
  scalar-only na nm nt (open_item.Tagged n v) bytes h k = absurd (nt (ap (λ y. y.kind) h))

  module _ (partial : Bool) (a b : Ahead ℕ) where
    -- the items of an array are read
    pub array-given : (v : Vec Item Global) → head.kind ≡ kind.Array
        → Reads (SpellsItems inner head.argument) partial a (Gives v b)
        → Reads (SpellsContents longest inner head) partial a (Gives (item.Array v) b)
    array-given v is (bytes, ((counted, each), t)) =
        let number : head.argument ≡ length v.items = sym counted in
        (bytes, (layer-spelled (item.Array v) (open_item.Array v) (out-array v) (λ i. record { kind = is i; argument = number i }) bytes each, t))

    -- the keys and values of a map are read
    pub map-given : (v : Vec (Item × Item) Global) → head.kind ≡ kind.Map
        → Reads (SpellsMap inner head.argument) partial a (Gives v b)
        → Reads (SpellsContents longest inner head) partial a (Gives (item.Map v) b)
    map-given v is (bytes, ((counted, each), t)) =
        let number : head.argument ≡ length v.items = sym counted in
        (bytes, (layer-spelled (item.Map v) (open_item.Map v) (out-map v) (λ i. record { kind = is i; argument = number i }) bytes each, t))

    -- the item that a tag tags is read
    pub tagged-given : (v : Item) (x : Box Item Global) → box_value x ≡ v → head.kind ≡ kind.Tag
        → Reads inner partial a (Gives v b)
        → Reads (SpellsContents longest inner head) partial a
        (Gives (item.Tagged head.argument x) b)
    tagged-given v x e is (bytes, (s, t)) = (
      bytes,
      (
        layer-spelled (item.Tagged head.argument x) (open_item.Tagged head.argument x) (out-tagged head.argument x)
            (λ i. record { kind = is i; argument = head.argument }) bytes (subst (λ y. inner y bytes) (sym e) s),
        t,
      ),
    )

    -- a scalar is read
    pub scalar-given : (s : Scalar) → Reads (SpellsBody longest head) partial a (Gives s b)
        → Reads (SpellsContents longest inner head) partial a (Gives (item.Scalar s) b)
    scalar-given s (bytes, ((h, l, e), t)) =
        (bytes, (layer-spelled (item.Scalar s) (open_item.Scalar s) (out-scalar s) h bytes (l, e), t))

  module _ (partial : Bool) (a : Ahead ℕ) (f : Failed ℕ) where
    -- the items of an array are not read
    pub array-unread : head.kind ≡ kind.Array
        → Reads (SpellsItems inner head.argument) partial a (Fails f)
        → Reads (SpellsContents longest inner head) partial a (Fails f)
    array-unread is h = none-has (SpellsItems inner head.argument) (SpellsContents longest inner head)
        (λ v bytes s. array-only is (out-Item v) bytes s.0 s.1) partial a f h

    -- the keys and values of a map are not read
    pub map-unread : head.kind ≡ kind.Map
        → Reads (SpellsMap inner head.argument) partial a (Fails f)
        → Reads (SpellsContents longest inner head) partial a (Fails f)
    map-unread is h = none-has (SpellsMap inner head.argument) (SpellsContents longest inner head)
        (λ v bytes s. map-only is (out-Item v) bytes s.0 s.1) partial a f h

    -- the item that a tag tags is not read
    pub tagged-unread : head.kind ≡ kind.Tag → Reads inner partial a (Fails f)
        → Reads (SpellsContents longest inner head) partial a (Fails f)
    tagged-unread is h = none-has inner (SpellsContents longest inner head)
        (λ v bytes s. tagged-only is (out-Item v) bytes s.0 s.1) partial a f h

    -- no scalar is read
    pub scalar-unread : (head.kind ≡ kind.Array → ⊥) → (head.kind ≡ kind.Map → ⊥)
        → (head.kind ≡ kind.Tag → ⊥)
        → Reads (SpellsBody longest head) partial a (Fails f)
        → Reads (SpellsContents longest inner head) partial a (Fails f)
    scalar-unread na nm nt h = none-has (SpellsBody longest head) (SpellsContents longest inner head)
        (λ v bytes s. scalar-only na nm nt (out-Item v) bytes s.0 s.1) partial a f h

-- what is written as a layer is spelled is written as its item is
pub layer-written : (longest : ℕ) (inner : Spelling Item) (v : Item) (x : Item-F Item)
    → out-Item v ≡ x
    → {W : Type 0} (spells : Spelling W) (w : W)
    → ((bytes : List ℕ) → spells w bytes → SpellsInner longest inner x bytes)
    → ((bytes : List ℕ) → SpellsInner longest inner x bytes → spells w bytes)
    → (old new : List ℕ) (result : Result (Unit {0}) Unwritten) → Writes spells w old result new
    → Writes (SpellsContents longest inner (item_head (out-Item v))) v old result new
layer-written longest inner v x is spells w to from old new (Ok done) (bytes, (s, e)) =
    (bytes, ((refl, subst (λ y. SpellsInner longest inner y bytes) (sym is) (to bytes s)), e))
layer-written longest inner v x is spells w to from old new (Err Unspelled) h =
    (λ bytes s. h.0 bytes (from bytes (subst (λ y. SpellsInner longest inner y bytes) is s.1)), h.1)
layer-written longest inner v x is spells w to from old new (Err (Refused r)) h = h

-- ---- Items within others

-- no item is read within fewer than 0 others
pub within-unread : (longest depth : ℕ) → depth ≡ 0 → (partial : Bool) (a : Ahead ℕ)
    → Reads (SpellsWithin longest depth) partial a (Fails (Backtracks a))
within-unread longest depth e partial a = (
  Moves-still a a refl,
  λ v bytes more rest follows s whole. within-none longest depth e v bytes s,
)

-- an item within fewer than a number of others is one within at most one less
pub within-read : (longest depth below : ℕ) → depth ≡ suc below → (partial : Bool) (a : Ahead ℕ)
    (out : Outcome Item ℕ) → Reads (SpellsItem longest below) partial a out
    → Reads (SpellsWithin longest depth) partial a out
within-read longest depth below e partial a out h = subst (λ d. Reads (SpellsWithin longest d) partial a out) (sym e) h

module _ (longest : ℕ) (same : Item → Item → Type 0) (inner : Spelling Item) (laws : IsFormat same inner) (partial : Bool) (a b : Ahead ℕ) where
  -- the head of an item is not read
  pub head-missed : (f : Failed ℕ) → Reads SpellsHead partial a (Fails f)
      → Reads (SpellsLayer longest inner) partial a (Fails f)
  head-missed f h =
      parts-unread (with_tag (λ item. item_head (out-Item item))) (SpellsBoth SpellsHead (SpellsContents longest inner)) partial a f
      (both-unbegun SpellsHead (SpellsContents longest inner) partial a f h)

  -- the head of an item is read, and what follows it
  pub item-read : (head : Head) (c : Ahead ℕ) (v : Item) → Reads SpellsHead partial a (Gives head b)
      → Reads (SpellsContents longest inner head) partial b (Gives v c)
      → Reads (SpellsLayer longest inner) partial a (Gives v c)
  item-read head c v h k =
      tags.tagged-given SpellsHead (λ item. item_head (out-Item item)) (SpellsContents longest inner) partial a b head (AreSameItem same)
      (AreCases-Contents longest same inner laws) c v h k

  -- the head of an item is read, and not what follows it
  pub item-missed : (head : Head) (f : Failed ℕ) → Reads SpellsHead partial a (Gives head b)
      → Reads (SpellsContents longest inner head) partial b (Fails f)
      → Reads (SpellsLayer longest inner) partial a (Fails f)
  item-missed head f h k =
      tags.tagged-unfinished SpellsHead (λ item. item_head (out-Item item)) (SpellsContents longest inner) partial a b head IsEqual (λ t u e. e) IsFormat-Head.prefix_free f h k
