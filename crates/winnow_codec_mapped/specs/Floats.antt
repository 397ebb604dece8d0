-- Floats that stand for their bits (IEEE 754).
use Rattle.std.specs.Prelude.{◌≡◌, ℕ, ◌*◌, ◌<◌, ◌==◌, Bool, true, false, ◌&&◌, ◌||◌, not, T, nat_lt, Option, None, Some, if◌then◌else◌, from_bits}
use Rattle.std.proofs.Common.{ap, sym, subst, ◌∙◌, refl}
use Rattle.std.proofs.lemmas.Bool.{ltb-true, eqb-true}
use lib.Ieee.{Float, to_bits, is_nan, Format, nan, fin, inf, top, binary32, binary64}
use lib.Ieee.Bits.{to_bits-of_bits}

-- the bits of a NaN that is quiet and carries nothing; no others are those of a NaN
abbrev pub quiet_four : ℕ
quiet_four = 0x7fc0_0000

abbrev pub quiet_eight : ℕ
quiet_eight = 0x7ff8_0000_0000_0000

-- the float of these bits, if they are fewer than the limit, and those of a number or an infinity,
-- or of the one NaN
abbrev pub float_of : Format → ℕ → ℕ → ℕ → Option Float
float_of format limit quiet bits =
    if nat_lt bits limit && (not (is_nan (from_bits format bits)) || bits == quiet)
    then Some (from_bits format bits) else None

-- a float that is no number is the one NaN
pub the-nan : (x : Float) → is_nan x ≡ true → x ≡ nan
unfolding is_nan
the-nan nan e = refl
the-nan (inf s) e = absurd cc
the-nan (fin s m k) e = absurd cc

-- a value under a test that holds
some-if : {V : Type 0} (b : Bool) (x v : V) → (if b then Some x else None) ≡ Some v
    → (b ≡ true) × (x ≡ v)
some-if true x v e = let one : x ≡ v = cc in (refl, one)
some-if false x v e = absurd cc

both-true : (a b : Bool) → (a && b) ≡ true → (a ≡ true) × (b ≡ true)
both-true true true e = (refl, refl)
both-true true false e = absurd cc
both-true false b e = absurd cc

one-true : (a b : Bool) → (not a || b) ≡ true → a ≡ true → b ≡ true
one-true true b e f = e
one-true false b e f = absurd cc

module _ (format : Format) (limit quiet : ℕ) (wide : limit ≡ 2 * top format) (is_quiet : to_bits format nan ≡ quiet) where
  -- the bits of a float that stands for some
  bits-of : (n : ℕ) (p : Bool) → is_nan (from_bits format n) ≡ p → nat_lt n limit ≡ true
      → (not (is_nan (from_bits format n)) || n == quiet) ≡ true → to_bits format (from_bits format n) ≡ n
  bits-of n true q less e =
      let same : n ≡ quiet = eqb-true n quiet (one-true (is_nan (from_bits format n)) (n == quiet) e q) in
      ap (to_bits format) (the-nan (from_bits format n) q) ∙ is_quiet ∙ sym same
  bits-of n false q less e =
      to_bits-of_bits format n (subst (λ k. n < k) wide (ltb-true n limit less)) (subst (λ b. T (not b)) (sym q) tt)

  told : (n : ℕ) (v : Float) → float_of format limit quiet n ≡ Some v → to_bits format v ≡ n
  told n v e =
      let found = some-if (nat_lt n limit && (not (is_nan (from_bits format n)) || n == quiet)) (from_bits format n) v e in
      let both = both-true (nat_lt n limit) (not (is_nan (from_bits format n)) || n == quiet) found.0 in
      ap (to_bits format) (sym found.1) ∙ bits-of n (is_nan (from_bits format n)) refl both.0 both.1

  -- no float stands for two
  pub StandsForOne-Floats : (m n : ℕ) (v : Float) → float_of format limit quiet m ≡ Some v
      → float_of format limit quiet n ≡ Some v → m ≡ n
  StandsForOne-Floats m n v d e = sym (told m v d) ∙ told n v e

pub stands-four : (m n : ℕ) (v : Float) → float_of binary32 4294967296 quiet_four m ≡ Some v
    → float_of binary32 4294967296 quiet_four n ≡ Some v → m ≡ n
unfolding to_bits
stands-four = StandsForOne-Floats binary32 4294967296 quiet_four refl refl

pub stands-eight : (m n : ℕ) (v : Float)
    → float_of binary64 18446744073709551616 quiet_eight m ≡ Some v
    → float_of binary64 18446744073709551616 quiet_eight n ≡ Some v → m ≡ n
unfolding to_bits
stands-eight = StandsForOne-Floats binary64 18446744073709551616 quiet_eight refl refl
