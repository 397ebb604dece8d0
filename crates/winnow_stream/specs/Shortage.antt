-- The offset after a number of tokens, or the shortage.
use Rattle.std.specs.Prelude.{◌≡◌, ℕ, zero, suc, ◌-◌, ◌<◌, nat_le, Bool, true, false, cond, length, take, Result, Ok, Err}
use Rattle.std.proofs.Common.{arith}
use Rattle.std.specs.declared.num.NonZeroUsize.{NonZeroUsize}
use Rattle.winnow_stream.specs.declared.needed.Needed.{Needed}
use Rattle.winnow_stream.specs.declared.needed.Needed.TheVariants.{Unknown, Size}
use Rattle.winnow_stream.specs.Source.{Source, width}

-- a successor is positive, as a size must be
pub positive : (k : ℕ) → 0 < suc k
positive k = omega arith

-- the need of k tokens: the size k, and `Unknown` for 0
abbrev pub needed : ℕ → Needed
needed zero = Unknown
needed (suc k) = Size (record { value = suc k; ok = positive k })

-- the number of tokens that are needed is known
abbrev pub is_known : Needed → Bool
is_known Unknown = false
is_known (Size n) = true

-- `to` is what a closure that maps sizes makes of `from`
abbrev pub IsMapped : (NonZeroUsize → ℕ → Type 0) → Needed → Needed → Type 0
IsMapped gives Unknown to = to ≡ Unknown
IsMapped gives (Size n) to = (k : ℕ) × (gives n k × (to ≡ needed k))

-- the shortage if k tokens are missing: counted if the stream counts them, and `Unknown` if not
abbrev pub shortage : Bool → ℕ → Needed
shortage true k = needed k
shortage false k = Unknown

-- the width of the first n tokens, or the shortage
abbrev pub offset_at : {T : Type 0} → Bool → Source T → ℕ → Result ℕ Needed
offset_at counts_shortage r n = cond (nat_le n (length r)) (Ok (width (take n r))) (Err (shortage counts_shortage (n - length r)))
