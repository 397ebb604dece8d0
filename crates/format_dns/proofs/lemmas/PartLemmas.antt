-- What stands after the first byte of a part.
use Rattle.std.specs.declared.alloc.Global.{Global}
use Rattle.std.specs.Prelude.{Vec}
use Rattle.std.proofs.Common.{◌≡◌, ◌≢◌, ℕ, ◌%◌, ◌<◌, ◌≤◌, List, sym, refl, ◌∙◌, arith}
use Rattle.winnow_codec.specs.Byte.{SpellsByte}
use Rattle.winnow_codec.specs.Bytes.{SpellsBytes}
use Rattle.winnow_codec.specs.Frames.{SpellsInside}
use Rattle.winnow_codec.specs.WholeFormats.{SpellsRest}
use Rattle.winnow_codec.specs.declared.choice.Choice.{Choice}
use Rattle.winnow_codec.specs.declared.choice.Choice.TheVariants.{First, Other}
use Rattle.format_dns.specs.Parts.{SpellsAfter}
use Rattle.format_dns.specs.declared.name.Ending.{Ending}
use Rattle.format_dns.specs.declared.name.Ending.TheVariants.{Root, Pointer}

-- a label stands after its length
pub has-label : (first size : ℕ) → size ≡ first → first ≢ 0 → first < 64
    → (w : Choice (Vec ℕ Global) Ending) (bytes : List ℕ) → SpellsAfter first w bytes
    → (v : Vec ℕ Global) × SpellsInside (SpellsBytes size) SpellsRest v bytes
has-label first size same some small (First label) bytes (i, j, k, h) =
    (label, (label.items, (refl, (sym i ∙ sym same, h))))
has-label first size same some small (Other Root) bytes (i, h) = absurd (some i)
has-label first size same some small (Other (Pointer place)) bytes (i, j, h) = absurd (omega (arith, i, small))

-- the lower byte of a pointer stands after its upper bits
pub has-low : (first : ℕ) → 192 ≤ first → (w : Choice (Vec ℕ Global) Ending) (bytes : List ℕ)
    → SpellsAfter first w bytes → (v : ℕ) × SpellsByte v bytes
has-low first great (First label) bytes (i, j, k, h) = absurd (omega (arith, great, k))
has-low first great (Other Root) bytes (i, h) = absurd (omega (arith, i, great))
has-low first great (Other (Pointer place)) bytes (i, j, h) = (place % 256, (omega arith, h))
