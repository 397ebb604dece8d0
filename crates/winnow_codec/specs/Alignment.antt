-- Values that are padded to a multiple of a number of bytes.
use Rattle.std.specs.Prelude.{◌≡◌, ℕ, ◌-◌, ◌%◌, List, length, replicate}
use Rattle.winnow_codec.specs.Formats.{Spelling, IsFormat}
use Rattle.winnow_codec.specs.Literals.{IsFormat-Literal}
use Rattle.winnow_codec.specs.Checks.{SpellsChecked, IsFormat-Followed}

-- how many bytes there are from this length up to the next multiple; none where it is one, and none
-- up to a multiple of 0
abbrev pub bytes_to_multiple : ℕ → ℕ → ℕ
bytes_to_multiple multiple length = (multiple - length % multiple) % multiple

-- this number of bytes of zero
abbrev pub SpellsZeros : Spelling ℕ
SpellsZeros n bytes = bytes ≡ replicate n 0

-- the spelling of the value, and then bytes of zero up to a multiple
abbrev pub SpellsAligned : {V : Type 0} → ℕ → Spelling V → Spelling V
SpellsAligned multiple inner =
    SpellsChecked inner SpellsZeros (λ part. bytes_to_multiple multiple (length part))

pub IsFormat-Aligned : {V : Type 0} (multiple : ℕ) (same : V → V → Type 0) (inner : Spelling V)
    → IsFormat same inner → IsFormat same (SpellsAligned multiple inner)
IsFormat-Aligned multiple same inner f =
    IsFormat-Followed same inner f SpellsZeros (λ n. IsFormat-Literal (replicate n 0))
    (λ part. bytes_to_multiple multiple (length part))
