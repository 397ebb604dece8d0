-- Data items (RFC 8949, section 3.1), with the keys of a map in order (section 4.2.1).
use Rattle.std.specs.Prelude.{◌≡◌, ℕ, zero, suc, List, [], length, box_value}
use Rattle.winnow_codec.specs.Formats.{Spelling}
use Rattle.winnow_codec.specs.Cases.{SpellsTagged}
use Rattle.winnow_codec.specs.FormatRows.{AreBothSame}
use Rattle.winnow_codec.specs.Lists.{SpellsEach, AreSameEach}
use Rattle.format_cbor.specs.Heads.{SpellsHead}
use Rattle.format_cbor.specs.Entries.{SpellsEntries}
use Rattle.format_cbor.specs.Scalars.{head_of, body_of, IsSpelled, AreSameScalar}
use Rattle.format_cbor.specs.declared.head.Head.{Head}
use Rattle.format_cbor.specs.declared.head.Kind.TheVariants as kind
use Rattle.format_cbor.specs.declared.item.Item.{Item}
use Rattle.format_cbor.specs.declared.item.Item.TheOpen as open_item
use Rattle.format_cbor.specs.declared.item.Item.TheOpen.{Item-F}
use Rattle.format_cbor.specs.declared.item.Item.TheViews.{out-Item}

-- the head of an item: of an array with the number of its items, of a map with the number of its
-- pairs, and of a tag with its number
abbrev pub item_head : Item-F Item → Head
item_head (open_item.Scalar s) = head_of s
item_head (open_item.Array items) = record { kind = kind.Array; argument = length items.items }
item_head (open_item.Map entries) = record { kind = kind.Map; argument = length entries.items }
item_head (open_item.Tagged n item) = record { kind = kind.Tag; argument = n }

-- what follows the head of an item, where a relation says which bytes spell the items inside: the
-- bytes of a string; the items of an array; the keys of a map in order, each before its value; or
-- the item that is tagged
abbrev pub SpellsInner : ℕ → Spelling Item → Item-F Item → List ℕ → Type 0
SpellsInner longest inner (open_item.Scalar s) bytes = IsSpelled longest s × (bytes ≡ body_of s)
SpellsInner longest inner (open_item.Array items) bytes = SpellsEach inner items.items bytes
SpellsInner longest inner (open_item.Map entries) bytes = SpellsEntries inner [] entries.items bytes
SpellsInner longest inner (open_item.Tagged n item) bytes = inner (box_value item) bytes

-- which bytes after a head spell an item
abbrev pub SpellsContents : ℕ → Spelling Item → Head → Spelling Item
SpellsContents longest inner head item bytes =
    (head ≡ item_head (out-Item item)) × SpellsInner longest inner (out-Item item) bytes

-- the head of the item, and then what follows it
abbrev pub SpellsLayer : ℕ → Spelling Item → Spelling Item
SpellsLayer longest inner = SpellsTagged SpellsHead (λ item. item_head (out-Item item)) (SpellsContents longest inner)

-- the bytes spell the item: it stands within fewer than `depth` arrays, maps and tags, and each
-- string in it has at most `longest` bytes
abbrev pub SpellsWithin : ℕ → ℕ → Spelling Item
SpellsWithin longest zero item bytes = ⊥
SpellsWithin longest (suc depth) item bytes = SpellsLayer longest (SpellsWithin longest depth) item bytes

-- the bytes spell the item, which stands within at most `depth` arrays, maps and tags
abbrev pub SpellsItem : ℕ → ℕ → Spelling Item
SpellsItem longest depth = SpellsLayer longest (SpellsWithin longest depth)

-- the layers are of one kind, and what they hold is the same
abbrev pub AreSameInner : (Item → Item → Type 0) → Item-F Item → Item-F Item → Type 0
AreSameInner same (open_item.Scalar s) (open_item.Scalar t) = AreSameScalar s t
AreSameInner same (open_item.Array vs) (open_item.Array ws) = AreSameEach same vs.items ws.items
AreSameInner same (open_item.Map vs) (open_item.Map ws) = AreSameEach (AreBothSame same same) vs.items ws.items
AreSameInner same (open_item.Tagged m v) (open_item.Tagged n w) = (m ≡ n) × same (box_value v) (box_value w)
AreSameInner same x y = ⊥

-- the items are of one kind, and what they hold is the same
abbrev pub AreSameItem : (Item → Item → Type 0) → Item → Item → Type 0
AreSameItem same v w = AreSameInner same (out-Item v) (out-Item w)

-- the items are the same within fewer than `depth` arrays, maps and tags
abbrev pub AreSameWithin : ℕ → Item → Item → Type 0
AreSameWithin zero v w = ⊥
AreSameWithin (suc depth) v w = AreSameItem (AreSameWithin depth) v w

-- the items are the same within some number of arrays, maps and tags
abbrev pub AreSame : Item → Item → Type 0
AreSame v w = (depth : ℕ) × AreSameWithin depth v w
