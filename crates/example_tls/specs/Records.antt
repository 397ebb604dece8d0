-- Which bytes spell a record of TLS, and the extensions of a handshake.
use Rattle.std.specs.declared.alloc.Global.{Global}
use Rattle.std.specs.Prelude.{Vec, ◌≡◌, ℕ}
use Rattle.winnow_codec.specs.Formats.{Spelling}
use Rattle.winnow_codec.specs.Byte.{SpellsByte}
use Rattle.winnow_codec.specs.Bytes.{SpellsAtMost, SpellsBytesAfter}
use Rattle.winnow_codec.specs.FormatNumbers.{SpellsNumber, big_endian, unsigned}
use Rattle.winnow_codec.specs.FormatParts.{SpellsParts}
use Rattle.winnow_codec.specs.FormatRows.{SpellsPair, SpellsRow3}
use Rattle.winnow_codec.specs.WholeFormats.{SpellsWithin, SpellsToEnd}
use Rattle.example_tls.specs.Codes.{content_code}
use Rattle.example_tls.specs.declared.extension_list.Extension.{Extension}
use Rattle.example_tls.specs.declared.records.TlsRecord.{TlsRecord}

-- a number of two bytes, the most significant first
abbrev pub SpellsTwo : Spelling ℕ
SpellsTwo = SpellsNumber big_endian 2 unsigned

-- the code of the content, the version, the length of the fragment, which is at most 16640, and the
-- fragment
abbrev pub SpellsRecord : Spelling TlsRecord
SpellsRecord = SpellsParts (λ r. (r.kind, r.version, r.fragment))
    (SpellsRow3 (SpellsParts content_code SpellsByte) SpellsTwo (SpellsBytesAfter (SpellsAtMost 16640 SpellsTwo)))

-- the records have the same content, version and fragment
abbrev pub AreSameRecord : TlsRecord → TlsRecord → Type 0
AreSameRecord r s = (content_code r.kind ≡ content_code s.kind)
    × ((r.version ≡ s.version) × (r.fragment.items ≡ s.fragment.items))

-- the number of an extension, the length of its data, and the data
abbrev pub SpellsExtension : Spelling Extension
SpellsExtension = SpellsParts (λ e. (e.number, e.data)) (SpellsPair SpellsTwo (SpellsBytesAfter SpellsTwo))

-- the length of all extensions in bytes, and then one after the other to its end
abbrev pub SpellsExtensions : Spelling (Vec Extension Global)
SpellsExtensions = SpellsWithin SpellsTwo (SpellsToEnd SpellsExtension)
