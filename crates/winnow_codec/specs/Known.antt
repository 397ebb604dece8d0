-- Values that are known, and what is spelled after them.
use Rattle.std.specs.Prelude.{◌≡◌, [], ⊤}
use Rattle.std.proofs.Common.{sym, ◌∙◌}
use Rattle.winnow_codec.specs.Formats.{Spelling, IsFormat}
use Rattle.winnow_codec.specs.FormatParts.{SpellsParts, IsFormat-Parts}
use Rattle.winnow_codec.specs.FormatRows.{SpellsPair, AreBothSame, IsFormat-Pair}

-- nothing is spelled as this value is
abbrev pub SpellsExactly : {V : Type 0} → Spelling V → V → Spelling (Unit {0})
SpellsExactly inner value nothing bytes = inner value bytes

-- all that stand for nothing are the same
abbrev pub IsNothing : Unit {0} → Unit {0} → Type 0
IsNothing v w = ⊤

pub IsFormat-Exactly : {V : Type 0} (same : V → V → Type 0) (inner : Spelling V) (value : V)
    → IsFormat same inner → IsFormat IsNothing (SpellsExactly inner value)
IsFormat-Exactly same inner value f = record {
  canonical = λ v. f.canonical value;
  prefix_free = λ v w b c r s h k e. (tt, (f.prefix_free value value b c r s h k e).1);
}

-- ---- After what is known

-- the spelling of nothing, and then that of the value
abbrev pub SpellsAfter : {V : Type 0} → Spelling (Unit {0}) → Spelling V → Spelling V
SpellsAfter start inner = SpellsParts (λ v. (tt, v)) (SpellsPair start inner)

pub IsFormat-After : {V : Type 0} (alike : Unit {0} → Unit {0} → Type 0) (same : V → V → Type 0)
    (start : Spelling (Unit {0})) (inner : Spelling V) → IsFormat alike start → IsFormat same inner
    → IsFormat same (SpellsAfter start inner)
IsFormat-After alike same start inner f g =
    let h = IsFormat-Parts (λ v. (tt, v)) (AreBothSame alike same) (SpellsPair start inner) (IsFormat-Pair alike same start inner f g) in
    record {
      canonical = h.canonical;
      prefix_free = λ v w b c r s i j e. let p = h.prefix_free v w b c r s i j e in (p.0.1, p.1);
    }

-- ---- Nothing

-- no bytes
abbrev pub SpellsNothing : Spelling (Unit {0})
SpellsNothing nothing bytes = bytes ≡ []

pub IsFormat-Nothing : IsFormat IsNothing SpellsNothing
IsFormat-Nothing = record {
  canonical = λ v b c h k. h ∙ sym k;
  prefix_free = λ v w b c r s h k e. (tt, h ∙ sym k);
}
