-- The keys and values of a map, with the keys in order (RFC 8949, section 4.2.1).
use Rattle.std.specs.Prelude.{Vec, ◌≡◌, ℕ, List, [], ◌∷◌, ◌++◌, length}
use Rattle.std.specs.declared.alloc.Global.{Global}
use Rattle.std.specs.Cmp.Lexicographic.{slice_cmp}
use Rattle.std.specs.Ordering.{nat_cmp}
use Rattle.std.proofs.Common.{Less}
use Rattle.winnow_codec.specs.Formats.{Spelling}
use Rattle.winnow_codec.specs.FormatRows.{SpellsPair}
use Rattle.format_cbor.specs.declared.item.Item.{Item}

-- the first bytes are before the others in the bytewise lexicographic order
abbrev pub IsBefore : List ℕ → List ℕ → Type 0
IsBefore key other = slice_cmp nat_cmp key other ≡ Less

-- the keys and values of a map, one after the other, where the spelling of each key is after that
-- of the key before it, and that of the first key after these bytes
abbrev pub SpellsEntries : Spelling Item → List ℕ → List (Item × Item) → List ℕ → Type 0
SpellsEntries inner last [] bytes = bytes ≡ []
SpellsEntries inner last (entry ∷ entries) bytes = (key value more : List ℕ) × (inner entry.0 key × IsBefore last key
    × inner entry.1 value × SpellsEntries inner key entries more × (bytes ≡ key ++ (value ++ more)))

-- that many keys in order, each before its value
abbrev pub SpellsMap : Spelling Item → ℕ → Spelling (Vec (Item × Item) Global)
SpellsMap inner count v bytes = (length v.items ≡ count) × SpellsEntries inner [] v.items bytes

-- a key whose spelling is after the last one
abbrev pub SpellsKey : Spelling Item → List ℕ → Spelling Item
SpellsKey inner last key bytes = inner key bytes × IsBefore last bytes

-- a key whose spelling is after the last one, and then the value
abbrev pub SpellsEntry : Spelling Item → List ℕ → Spelling (Item × Item)
SpellsEntry inner last = SpellsPair (SpellsKey inner last) inner

-- the bytes of a key, and then the value
abbrev pub SpellsValue : Spelling Item → List ℕ → Spelling Item
SpellsValue inner key value bytes = (back : List ℕ) × (inner value back × (bytes ≡ key ++ back))
