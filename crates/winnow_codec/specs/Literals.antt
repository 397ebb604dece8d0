-- Bytes that are known.
use Rattle.std.specs.Prelude.{◌≡◌, ℕ, List}
use Rattle.std.proofs.Common.{sym, ◌∙◌}
use Rattle.winnow_codec.specs.Formats.{Spelling, IsFormat}
use Rattle.winnow_codec.specs.Known.{IsNothing}

-- these bytes alone
abbrev pub SpellsLiteral : List ℕ → Spelling (Unit {0})
SpellsLiteral literal nothing bytes = bytes ≡ literal

pub IsFormat-Literal : (literal : List ℕ) → IsFormat IsNothing (SpellsLiteral literal)
IsFormat-Literal literal = record {
  canonical = λ v b c h k. h ∙ sym k;
  prefix_free = λ v w b c r s h k t. (tt, h ∙ sym k);
}
