-- The two halves of a byte.
use Rattle.std.specs.Prelude.{◌≡◌, ℕ, ◌<◌, ◌+◌, ◌*◌, List, [], ◌∷◌, ◌++◌}
use Rattle.std.proofs.Common.{ap, sym, ◌∙◌, arith}
use Rattle.winnow_codec.specs.Formats.{Spelling, IsFormat, IsEqual}

-- a byte has the first value in its upper four bits, and the second in its lower four
abbrev pub SpellsNibbles : Spelling (ℕ × ℕ)
SpellsNibbles p bytes = (p.0 < 16) × (p.1 < 16) × (bytes ≡ (p.0 * 16 + p.1) ∷ [])

-- the first bytes of equal lists are equal
first-of : (a b : ℕ) (r s : List ℕ) → (a ∷ []) ++ r ≡ (b ∷ []) ++ s → a ≡ b
first-of a b r s e = cc

pub IsFormat-Nibbles : IsFormat IsEqual SpellsNibbles
IsFormat-Nibbles = record {
  canonical = λ v b c h k. h.2 ∙ sym k.2;
  prefix_free = λ v w b c r s h k e.
      let first : v.0 * 16 + v.1 ≡ w.0 * 16 + w.1 = first-of _ _ r s (ap (λ l. l ++ r) (sym h.2) ∙ e ∙ ap (λ l. l ++ s) k.2) in
      let one : v.0 ≡ w.0 = omega (arith, first, h.1, k.1) in
      let two : v.1 ≡ w.1 = omega (arith, first, h.1, k.1) in
      ((λ i. (one i, two i)), h.2 ∙ ap (λ n. n ∷ []) first ∙ sym k.2);
}
