-- Texts in UTF-8 that fill a part.
use Rattle.std.specs.declared.alloc.Global.{Global}
use Rattle.std.specs.Prelude.{String, string_bytes, ◌≡◌, IsUtf8}
use Rattle.std.proofs.Common.{sym, ◌∙◌}
use Rattle.winnow_codec.specs.Formats.{Spelling}
use Rattle.winnow_codec.specs.WholeFormats.{IsWhole}

-- the bytes are those of the text, in UTF-8
abbrev pub SpellsText : Spelling (String Global)
SpellsText text bytes = IsUtf8 bytes × (bytes ≡ string_bytes text)

-- the texts have the same bytes
abbrev pub HaveSameText : String Global → String Global → Type 0
HaveSameText v w = string_bytes v ≡ string_bytes w

pub IsWhole-Text : IsWhole HaveSameText SpellsText
IsWhole-Text = record {
  canonical = λ v b c h k. h.1 ∙ sym k.1;
  one_value = λ v w b h k. sym h.1 ∙ k.1;
}
