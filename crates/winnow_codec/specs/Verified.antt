-- The values of a format that are allowed.
use Rattle.std.specs.Prelude.{◌≡◌}
use Rattle.winnow_codec.specs.Formats.{Spelling, IsFormat}

-- the spelling of a value that is allowed
abbrev pub SpellsAllowed : {V : Type 0} → (V → Type 0) → Spelling V → Spelling V
SpellsAllowed allows inner value bytes = allows value × inner value bytes

pub IsFormat-Allowed : {V : Type 0} (allows : V → Type 0) (same : V → V → Type 0)
    (inner : Spelling V) → IsFormat same inner → IsFormat same (SpellsAllowed allows inner)
IsFormat-Allowed allows same inner f = record {
  canonical = λ v b c h k. f.canonical v b c h.1 k.1;
  prefix_free = λ v w b c r s h k t. f.prefix_free v w b c r s h.1 k.1 t;
}
