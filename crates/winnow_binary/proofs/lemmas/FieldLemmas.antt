-- Fields of bits, one after another.
use Rattle.std.specs.Prelude.{◌≡◌, ℕ, zero, suc, ◌+◌, ◌-◌, ◌/◌, ◌^◌, ◌<◌, ◌≤◌, List, [], ◌∷◌, length, take, drop, sum, All, bit_and}
use Rattle.std.proofs.Common.{ap, sym, ◌∙◌, subst, arith, get_or}
use Rattle.std.proofs.lemmas.Nat.{and_mask}
use Rattle.std.proofs.lemmas.Nat.Bits.{ones_shr}
use Rattle.std.proofs.lemmas.List.{take_more}
use Rattle.std.proofs.lemmas.List.Elements.{All-append}
use Rattle.std.proofs.lemmas.List.Sums.{sum_by-take-drop, sum_by_more}
use Rattle.winnow_binary.specs.Fields.{FillBytes, bits_of}

-- a mask of the lowest bits keeps them
pub masked-bits : (n low width : ℕ) → width ≤ 64
    → bit_and (n / 2 ^ low) (18446744073709551615 / 2 ^ (64 - width)) ≡ bits_of n low width
masked-bits n low width h =
    let e : 64 - (64 - width) ≡ width = omega arith in
    let f : 64 - width ≤ 64 = omega arith in
    ap (bit_and (n / 2 ^ low)) (ones_shr 64 (64 - width) f ∙ ap (λ k. 2 ^ k - 1) e) ∙ and_mask (n / 2 ^ low) width

-- the bits of the fields up to the i-th are those of the fields before it and its own
pub sum-before : (ws : List ℕ) (i : ℕ) → i < length ws
    → sum (take (i + 1) ws) ≡ sum (take i ws) + get_or ws i 0
sum-before ws i h = sum_by_more (λ w. w) ws i 0 h

-- the bits of the fields from the i-th on are no more than all bits
sum-rest : (ws : List ℕ) (i : ℕ) → sum (drop i ws) ≤ sum ws
sum-rest ws i = omega (arith, sum_by-take-drop (λ w. w) ws i)

-- below a field of whole bytes there are less than 64 bits
pub below-field : (ws : List ℕ) (i : ℕ) → FillBytes ws → i < length ws
    → sum (drop i ws) - get_or ws i 0 < 64
below-field ws i h l = omega (arith, sum-rest ws i, h.1, h.0 i 0 l)

-- what holds of one element holds of the list of it alone
All-one : (P : ℕ → Type 0) (x : ℕ) → P x → All P (x ∷ [])
All-one P x h zero d l = h
All-one P x h (suc k) d l = absurd (omega arith)

-- one more element of which this holds
pub All-more : (P : ℕ → Type 0) (xs : List ℕ) (i : ℕ) → i < length xs → All P (take i xs)
    → P (get_or xs i 0) → All P (take (i + 1) xs)
All-more P xs i h all here =
    subst (All P) (sym (take_more xs i 0 h)) (All-append P (take i xs) (get_or xs i 0 ∷ []) all (All-one P (get_or xs i 0) here))
