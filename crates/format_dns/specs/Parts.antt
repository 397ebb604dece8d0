-- The parts of a name: labels, and what ends them (RFC 1035, sections 3.1 and 4.1.4).
use Rattle.std.specs.declared.alloc.Global.{Global}
use Rattle.std.specs.Prelude.{Vec, ◌≡◌, ℕ, ◌+◌, ◌/◌, ◌%◌, ◌<◌, min, List, [], ◌∷◌, ◌++◌, length}
use Rattle.std.proofs.Common.{ap, sym, ◌∙◌, refl, arith}
use Rattle.winnow_codec.specs.Formats.{Spelling}
use Rattle.winnow_codec.specs.Bytes.{same-front}
use Rattle.winnow_codec.specs.Byte.{SpellsByte}
use Rattle.winnow_codec.specs.Cases.{AreCases, SpellsTagged}
use Rattle.winnow_codec.specs.declared.choice.Choice.{Choice}
use Rattle.winnow_codec.specs.declared.choice.Choice.TheVariants.{First, Other}
use Rattle.format_dns.specs.declared.name.Ending.{Ending}
use Rattle.format_dns.specs.declared.name.Ending.TheVariants.{Root, Pointer}

-- the first byte of a part: how many bytes the label has, or 0 for the root, or the upper bits of a
-- pointer after two that are set
abbrev pub first_of : Choice (Vec ℕ Global) Ending → ℕ
first_of (First label) = min (length label.items) 255
first_of (Other Root) = 0
first_of (Other (Pointer place)) = 192 + min (place / 256) 63

-- what follows this first byte: the bytes of a label, of which there are 1 to 63; nothing after the
-- root; or the lower byte of a pointer
abbrev pub SpellsAfter : ℕ → Spelling (Choice (Vec ℕ Global) Ending)
SpellsAfter first (First label) bytes =
    (first ≡ length label.items) × (0 < first) × (first < 64) × (bytes ≡ label.items)
SpellsAfter first (Other Root) bytes = (first ≡ 0) × (bytes ≡ [])
SpellsAfter first (Other (Pointer place)) bytes =
    (first ≡ 192 + place / 256) × (place < 16384) × (bytes ≡ place % 256 ∷ [])

-- labels of the same bytes, or one ending
abbrev pub AreSamePart : Choice (Vec ℕ Global) Ending → Choice (Vec ℕ Global) Ending → Type 0
AreSamePart (First v) (First w) = v.items ≡ w.items
AreSamePart (First v) (Other e) = ⊥
AreSamePart (Other e) (First w) = ⊥
AreSamePart (Other e) (Other f) = e ≡ f

-- the first byte, and what follows it
abbrev pub SpellsPart : Spelling (Choice (Vec ℕ Global) Ending)
SpellsPart = SpellsTagged SpellsByte first_of SpellsAfter

after-canonical : (first : ℕ) (v : Choice (Vec ℕ Global) Ending) (b c : List ℕ)
    → SpellsAfter first v b → SpellsAfter first v c → b ≡ c
after-canonical first (First label) b c (i, j, k, h) (m, n, o, e) = h ∙ sym e
after-canonical first (Other Root) b c (i, h) (j, e) = h ∙ sym e
after-canonical first (Other (Pointer place)) b c (i, j, h) (k, l, e) = h ∙ sym e

-- a pointer has one place
places : (p q : ℕ) → p / 256 ≡ q / 256 → p % 256 ≡ q % 256 → p ≡ q
places p q d m = grind arith

after-prefix_free : (first : ℕ) (v w : Choice (Vec ℕ Global) Ending) (b c r s : List ℕ)
    → SpellsAfter first v b → SpellsAfter first w c → b ++ r ≡ c ++ s
    → AreSamePart v w × (b ≡ c)
after-prefix_free first (First v) (First w) b c r s (i, j, k, h) (m, n, o, e) whole =
    let both = same-front b c r s (ap length h ∙ sym i ∙ m ∙ ap length (sym e)) whole in
    (sym h ∙ both ∙ e, both)
after-prefix_free first (First v) (Other Root) b c r s (i, j, k, h) (n, e) whole =
    absurd (omega (arith, j, n))
after-prefix_free first (First v) (Other (Pointer q)) b c r s (i, j, k, h) (m, n, e) whole =
    absurd (omega (arith, k, m))
after-prefix_free first (Other Root) (First w) b c r s (n, e) (i, j, k, h) whole =
    absurd (omega (arith, j, n))
after-prefix_free first (Other Root) (Other Root) b c r s (i, h) (n, e) whole = (refl, h ∙ sym e)
after-prefix_free first (Other Root) (Other (Pointer q)) b c r s (i, h) (m, n, e) whole =
    absurd (omega (arith, i, m))
after-prefix_free first (Other (Pointer p)) (First w) b c r s (m, n, e) (i, j, k, h) whole =
    absurd (omega (arith, k, m))
after-prefix_free first (Other (Pointer p)) (Other Root) b c r s (m, n, e) (i, h) whole =
    absurd (omega (arith, i, m))
after-prefix_free first (Other (Pointer p)) (Other (Pointer q)) b c r s (i, j, h) (m, n, e) whole =
    let both = same-front b c r s (ap length h ∙ ap length (sym e)) whole in
    let low : p % 256 ≡ q % 256 = cc in
    (ap Pointer (places p q (omega (arith, i, m)) low), both)

after-first : (first : ℕ) (v : Choice (Vec ℕ Global) Ending) (bytes : List ℕ)
    → SpellsAfter first v bytes → first ≡ first_of v
after-first first (First label) bytes (i, j, k, h) = omega (arith, i, k)
after-first first (Other Root) bytes (i, h) = i
after-first first (Other (Pointer place)) bytes (i, j, h) = omega (arith, i, j)

pub AreCases-After : AreCases AreSamePart first_of SpellsAfter
AreCases-After = record {
  formats = λ first. record { canonical = after-canonical first; prefix_free = after-prefix_free first };
  one_tag = after-first;
}
