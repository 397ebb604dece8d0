-- Values that stand for those of a format.
use Rattle.std.specs.Prelude.{◌≡◌, Option, Some}
use Rattle.std.proofs.Common.{ap, sym, subst, ◌∙◌}
use Rattle.winnow_codec.specs.Formats.{Spelling, IsFormat, IsExact, IsEqual}

-- a value is spelled as what it stands for
abbrev pub SpellsMapped : {A V : Type 0} → (A → Option V) → Spelling A → Spelling V
SpellsMapped {A} value_of inner value bytes = (a : A) × ((value_of a ≡ Some value) × inner a bytes)

-- no value stands for two
abbrev pub StandsForOne : {A V : Type 0} → (A → Option V) → Type 0
StandsForOne {A} {V} value_of = (a b : A) (v : V) → value_of a ≡ Some v → value_of b ≡ Some v → a ≡ b

-- values that stand for those of a format have the laws of one
pub IsFormat-Mapped : {A V : Type 0} (value_of : A → Option V) (same : A → A → Type 0)
    (inner : Spelling A) → StandsForOne value_of → IsExact same → IsFormat same inner
    → IsFormat IsEqual (SpellsMapped value_of inner)
IsFormat-Mapped {A} {V} value_of same inner one exact f = record {
  canonical = λ v b c (x, (d, h)) (y, (e, k)).
      f.canonical x b c h (subst (λ a. inner a c) (one y x v e d) k);
  prefix_free = λ v w b c r s (x, (d, h)) (y, (e, k)) t.
      let both = f.prefix_free x y b c r s h k t in
      let some : Some v ≡ Some w = sym d ∙ ap value_of (exact x y both.0) ∙ e in
      let equal : v ≡ w = cc in
      (equal, both.1);
}
