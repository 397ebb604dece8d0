-- The spelling of a byte.
use Rattle.std.specs.Prelude.{◌≡◌, ℕ, ◌<◌, [], ◌∷◌}
use Rattle.std.proofs.Common.{ap, sym, ◌∙◌}
use Rattle.winnow_codec.specs.Formats.{Spelling, IsFormat, IsEqual}

-- the byte spells itself
abbrev pub SpellsByte : Spelling ℕ
SpellsByte byte bytes = (byte < 256) × (bytes ≡ byte ∷ [])

pub IsFormat-Byte : IsFormat IsEqual SpellsByte
IsFormat-Byte = record {
  canonical = λ v b c h k. h.1 ∙ sym k.1;
  prefix_free = λ v w b c r s h k e. let f = h.1 in let g = k.1 in let i : v ≡ w = cc in (i, f ∙ ap (λ n. n ∷ []) i ∙ sym g);
}
