-- Floats stand for the bits that are written of them.
use Rattle.std.proofs.Common.{◌≡◌, ℕ, ◌*◌, ◌<◌, ◌==◌, Bool, true, false, ◌&&◌, ◌||◌, not, T, nat_lt, None, Some, ap, sym, ◌∙◌, subst, refl}
use Rattle.std.specs.Prelude.{if◌then◌else◌}
use Rattle.std.proofs.lemmas.Bool.{lt-ltb}
use Rattle.winnow_codec_mapped.specs.Floats.{float_of, quiet_four, quiet_eight, the-nan}
use lib.Ieee.{Float, Format, of_bits, to_bits, is_nan, fits, top, binary32, binary64}
use lib.Ieee.Bits.{of_bits-to_bits, to_bits-lt}

if-true : (b : Bool) (x v : Float) → b ≡ true → x ≡ v → (if b then Some x else None) ≡ Some v
if-true true x v e f = ap Some f
if-true false x v e f = absurd cc

all-true : (a b c : Bool) → a ≡ true → b ≡ false → (a && (not b || c)) ≡ true
all-true true false c e f = refl
all-true true true c e f = absurd cc
all-true false b c e f = absurd cc

-- a float that is a number stands for its bits
pub number-told : (format : Format) (limit quiet : ℕ) (v : Float) → limit ≡ 2 * top format
    → T (fits format v)
    → is_nan v ≡ false → float_of format limit quiet (to_bits format v) ≡ Some v
number-told format limit quiet v wide fit number =
    let back = of_bits-to_bits format v fit in
    let below : to_bits format v < limit = subst (λ n. to_bits format v < n) (sym wide) (to_bits-lt format v fit) in
    if-true _ (of_bits format (to_bits format v)) v
    (all-true (nat_lt (to_bits format v) limit) (is_nan (of_bits format (to_bits format v))) (to_bits format v == quiet)
    (lt-ltb (to_bits format v) limit below) (ap is_nan back ∙ number))
    back

-- one that is none stands for those of the one NaN
pub nan-told-four : (v : Float) → is_nan v ≡ true
    → float_of binary32 4294967296 quiet_four quiet_four ≡ Some v
unfolding of_bits is_nan
nan-told-four v e = ap Some (sym (the-nan v e))

pub nan-told-eight : (v : Float) → is_nan v ≡ true
    → float_of binary64 18446744073709551616 quiet_eight quiet_eight ≡ Some v
unfolding of_bits is_nan
nan-told-eight v e = ap Some (sym (the-nan v e))
