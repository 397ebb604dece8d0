-- Values that are spelled as their parts are.
use Rattle.winnow_codec.specs.Formats.{Spelling, IsFormat}

-- the parts of the value are spelled
abbrev pub SpellsParts : {S V : Type 0} → (S → V) → Spelling V → Spelling S
SpellsParts parts spells s bytes = spells (parts s) bytes

-- the parts are the same
abbrev pub HaveSameParts : {S V : Type 0} → (S → V) → (V → V → Type 0) → S → S → Type 0
HaveSameParts parts same s t = same (parts s) (parts t)

pub IsFormat-Parts : {S V : Type 0} (parts : S → V) (same : V → V → Type 0) (spells : Spelling V)
    → IsFormat same spells → IsFormat (HaveSameParts parts same) (SpellsParts parts spells)
IsFormat-Parts parts same spells f = record {
  canonical = λ s. f.canonical (parts s);
  prefix_free = λ s t. f.prefix_free (parts s) (parts t);
}
