-- When a float of a narrower width has a magnitude.
use Rattle.std.proofs.Common.{◌≡◌, ℕ, zero, suc, ◌+◌, ◌-◌, ◌*◌, ◌/◌, ◌%◌, ◌^◌, ◌<◌, ◌≤◌, ap, sym, ◌∙◌, subst, arith}
use Rattle.std.proofs.Math.Nat as nat
use Rattle.std.proofs.Math.Decide.{dec_le}
use Rattle.std.proofs.Math.Logic.{by_cases}
use Rattle.std.proofs.Math.Pow.{pow_mono}
use Rattle.std.proofs.lemmas.Nat.{pow-add, pow_pos}
use Rattle.format_cbor.specs.Floats.{magnitude, IsMagnitudeOf}

-- equal multiples by a power of two are of equal numbers
cancel : (a b k : ℕ) → a * 2 ^ k ≡ b * 2 ^ k → a ≡ b
cancel a b k e =
    let p = pow_pos k in
    let one : a ≤ b = nat.le_of_mul-le-mul_right {k = 2 ^ k} (omega (arith, e)) p in
    let two : b ≤ a = nat.le_of_mul-le-mul_right {k = 2 ^ k} (omega (arith, e)) p in
    omega (arith, one, two)

-- a power of two that is below another has a smaller exponent
exponent-below : (i j : ℕ) → 2 ^ i < 2 ^ j → i < j
exponent-below i j h = nat.lt_of_not-le (λ k. let m = pow_mono k in omega (arith, h, m))

-- a number times one power and then another
twice : (a i j : ℕ) → a * 2 ^ i * 2 ^ j ≡ a * 2 ^ (i + j)
twice a i j = nat.mul_assoc a (2 ^ i) (2 ^ j) ∙ ap (λ p. a * p) (sym (pow-add 2 i j))

-- one of the exponents is not below the other where the numbers are within a factor of two
not-less : (n a b i j : ℕ) → a < n + n → n ≤ b → a * 2 ^ i ≡ b * 2 ^ j → i < j → ⊥
not-less n a b i j s l e h =
    let p = pow_pos i in
    let up : a * 2 ^ i < (n + n) * 2 ^ i = nat.mul-lt-mul_of_pos_right s p in
    let step : 2 ^ i + 2 ^ i ≤ 2 ^ j = nat.le_trans (nat.le_of_eq (sym (nat.two-pow-succ i))) (pow_mono h) in
    let over : n * (2 ^ i + 2 ^ i) ≤ b * 2 ^ j = nat.mul-le-mul l step in
    let even : (n + n) * 2 ^ i ≡ n * (2 ^ i + 2 ^ i) = grind arith in
    omega (arith, up, over, even, e)

-- numbers within a factor of two times powers of two are equal only if both are
unique : (n a b i j : ℕ) → n ≤ a → a < n + n → n ≤ b → b < n + n → a * 2 ^ i ≡ b * 2 ^ j
    → (i ≡ j) × (a ≡ b)
unique n a b i j la sa lb sb e =
    let less : j < suc i = nat.lt_of_not-le (λ k. not-less n a b i j sa lb e (omega (arith, k))) in
    let more : i < suc j = nat.lt_of_not-le (λ k. not-less n b a j i sb la (sym e) (omega (arith, k))) in
    let same : i ≡ j = omega (arith, less, more) in
    (same, cancel a b j (ap (λ k. a * 2 ^ k) (sym same) ∙ e))

module _ (digits lost last finer : ℕ) (some : 0 < last) (t s : ℕ) (low : 2 ^ (digits + lost) ≤ s) (high : s < 2 ^ (digits + lost) + 2 ^ (digits + lost)) where
  -- the last bits of a significand that a narrower float cannot have are 0, and its exponent is not
  -- too great
  pub record Fits (k : ℕ) : Type 0 where
    pub room : t + 1 + lost < last + finer
    pub few : k ≤ digits + lost
    pub even : s % 2 ^ k ≡ 0

  split : 2 ^ (digits + lost) ≡ 2 ^ digits * 2 ^ lost
  split = pow-add 2 digits lost

  -- a float has it where the exponent is that of a normal one
  normal : finer ≤ t + lost → Fits lost → IsMagnitudeOf digits last finer (s * 2 ^ t)
  normal h f =
      let q = s / 2 ^ lost in
      let p = pow_pos lost in
      let whole : q * 2 ^ lost ≡ s = omega (arith, nat.mod-eq-sub-div-mul s (2 ^ lost), f.even, nat.div-mul-le_self s (2 ^ lost)) in
      let least : 2 ^ digits ≤ q = nat.le_of_mul-le-mul_right {k = 2 ^ lost} (omega (arith, whole, low, split)) p in
      let twofold : (2 ^ digits + 2 ^ digits) * 2 ^ lost ≡ 2 ^ digits * 2 ^ lost + 2 ^ digits * 2 ^ lost = grind arith in
      let most : q < 2 ^ digits + 2 ^ digits = nat.lt_of_mul-lt-mul_right (2 ^ lost) (omega (arith, whole, high, split, twofold)) in
      let z = t + lost - finer in
      let back : 2 ^ digits + (q - 2 ^ digits) ≡ q = omega (arith, least) in
      let sum : z + finer ≡ lost + t = omega (arith, h) in
      let value : (2 ^ digits + (q - 2 ^ digits)) * 2 ^ z * 2 ^ finer ≡ s * 2 ^ t =
      ap (λ x. x * 2 ^ z * 2 ^ finer) back ∙ twice q z finer ∙ ap (λ x. q * 2 ^ x) sum ∙ sym (twice q lost t) ∙ ap (λ x. x * 2 ^ t) whole in
      (suc z, q - 2 ^ digits, (omega (arith, f.room, h), omega (arith, least, most), value))

  -- a float has it where the exponent is below that of a normal one
  subnormal : t + lost < finer → Fits (finer - t) → IsMagnitudeOf digits last finer (s * 2 ^ t)
  subnormal h f =
      let k = finer - t in
      let q = s / 2 ^ k in
      let whole : q * 2 ^ k ≡ s = omega (arith, nat.mod-eq-sub-div-mul s (2 ^ k), f.even, nat.div-mul-le_self s (2 ^ k)) in
      let above : 2 ^ suc lost ≤ 2 ^ k = pow_mono (omega (arith, h)) in
      let twofold : 2 ^ digits * (2 ^ lost + 2 ^ lost) ≡ 2 ^ digits * 2 ^ lost + 2 ^ digits * 2 ^ lost = grind arith in
      let over : 2 ^ digits * (2 ^ lost + 2 ^ lost) ≤ 2 ^ digits * 2 ^ k = nat.mul-le-mul_left (2 ^ digits) (nat.le_trans (nat.le_of_eq (sym (nat.two-pow-succ lost))) above) in
      let most : q < 2 ^ digits = nat.lt_of_mul-lt-mul_right (2 ^ k) (omega (arith, whole, high, split, twofold, over)) in
      let sum : finer ≡ k + t = omega (arith, h) in
      (zero, q, (some, most, ap (λ x. q * 2 ^ x) sum ∙ sym (twice q k t) ∙ ap (λ x. x * 2 ^ t) whole))

  -- a normal float that has it fits
  fits-normal : (z y : ℕ) → suc z < last → y < 2 ^ digits
      → (2 ^ digits + y) * 2 ^ z * 2 ^ finer ≡ s * 2 ^ t
      → (finer ≤ t + lost) × Fits lost
  fits-normal z y l m e =
      let p = pow_pos lost in
      let n = 2 ^ digits + y in
      let wide : n * 2 ^ lost * 2 ^ (z + finer) ≡ s * 2 ^ (t + lost) =
      twice n lost (z + finer) ∙ ap (λ x. n * 2 ^ x) (omega arith) ∙ sym (twice n (z + finer) lost)
      ∙ ap (λ x. x * 2 ^ lost) (sym (twice n z finer) ∙ e) ∙ twice s t lost in
      let least : 2 ^ digits * 2 ^ lost ≤ n * 2 ^ lost = nat.mul-le-mul_right (2 ^ lost) (omega arith) in
      let twofold : (2 ^ digits + 2 ^ digits) * 2 ^ lost ≡ 2 ^ digits * 2 ^ lost + 2 ^ digits * 2 ^ lost = grind arith in
      let most : n * 2 ^ lost < (2 ^ digits + 2 ^ digits) * 2 ^ lost = nat.mul-lt-mul_of_pos_right (omega (arith, m)) p in
      let one = unique (2 ^ (digits + lost)) (n * 2 ^ lost) s (z + finer) (t + lost) (omega (arith, least, split)) (omega (arith, most, split, twofold)) low high wide in (
        omega (arith, one.0),
        record { room = omega (arith, one.0, l); few = omega arith; even = ap (λ x. x % 2 ^ lost) (sym one.1) ∙ nat.mul-mod_left n (2 ^ lost) },
      )

  -- a subnormal float that has it fits
  fits-subnormal : (y : ℕ) → y < 2 ^ digits → y * 2 ^ finer ≡ s * 2 ^ t
      → (t + lost < finer) × Fits (finer - t)
  fits-subnormal y m e =
      let p = pow_pos t in
      let below : t < finer = nat.lt_of_not-le (λ h.
      let far : finer + (t - finer) ≡ t = omega (arith, h) in
      let turned : y * 2 ^ finer ≡ s * 2 ^ (t - finer) * 2 ^ finer =
      e ∙ ap (λ x. s * 2 ^ x) (sym far ∙ omega arith) ∙ sym (twice s (t - finer) finer) in
      let same = cancel y (s * 2 ^ (t - finer)) finer turned in
      let least : s * 1 ≤ s * 2 ^ (t - finer) = nat.mul-le-mul_left s (pow_pos (t - finer)) in
      let small : 2 ^ digits ≤ 2 ^ (digits + lost) = pow_mono (omega arith) in
      omega (arith, m, same, least, small, low)) in
      let k = finer - t in
      let sum : finer ≡ k + t = omega (arith, below) in
      let whole : y * 2 ^ k ≡ s = cancel (y * 2 ^ k) s t (twice y k t ∙ ap (λ x. y * 2 ^ x) (sym sum) ∙ e) in
      let under : y * 2 ^ k < 2 ^ digits * 2 ^ k = nat.mul-lt-mul_of_pos_right m (pow_pos k) in
      let wider : 2 ^ (digits + lost) < 2 ^ (digits + k) = omega (arith, low, whole, under, pow-add 2 digits k) in
      let deep : digits + lost < digits + k = exponent-below (digits + lost) (digits + k) wider in
      let full : 0 < y = nat.pos_of_ne-zero (λ z. let none : 0 * 2 ^ k ≡ s = ap (λ x. x * 2 ^ k) (sym z) ∙ whole in omega (arith, none, low, pow_pos (digits + lost))) in
      let some_bits : 1 * 2 ^ k ≤ y * 2 ^ k = nat.mul-le-mul_right (2 ^ k) full in
      let short : 2 ^ k < 2 ^ suc (digits + lost) = omega (arith, some_bits, whole, high, nat.two-pow-succ (digits + lost)) in
      let few = exponent-below k (suc (digits + lost)) short in (
        omega (arith, below, deep),
        record { room = omega (arith, below, deep, some); few = omega (arith, few); even = ap (λ x. x % 2 ^ k) (sym whole) ∙ nat.mul-mod_left y (2 ^ k) },
      )

  -- how many of the last bits have to be 0
  abbrev pub IsCut : ℕ → Type 0
  IsCut k = (finer ≤ t + lost → k ≡ lost) × (t + lost < finer → k ≡ finer - t)

  -- a float has it if it fits
  pub fitted : (k : ℕ) → IsCut k → Fits k → IsMagnitudeOf digits last finer (s * 2 ^ t)
  fitted k is f = by_cases (dec_le finer (t + lost)) (λ h. normal h (subst Fits (is.0 h) f)) (λ h. let deep = nat.lt_of_not-le h in subnormal deep (subst Fits (is.1 deep) f))

  -- it fits if a float has it
  pub fitting : (k : ℕ) → IsCut k → IsMagnitudeOf digits last finer (s * 2 ^ t) → Fits k
  fitting k is (zero, y, (l, m, e)) = let f = fits-subnormal y m e in subst Fits (sym (is.1 f.0)) f.1
  fitting k is (suc z, y, (l, m, e)) = let f = fits-normal z y l m e in subst Fits (sym (is.0 f.0)) f.1

-- 0 is a magnitude of each width, and of a subnormal float of a finer width no other is
pub of-nothing : (digits lost last finer fraction : ℕ) → 0 < last → digits + lost ≤ finer
    → fraction < 2 ^ (digits + lost)
    → (fraction ≡ 0 → IsMagnitudeOf digits last finer fraction) × (IsMagnitudeOf digits last finer fraction → fraction ≡ 0)
of-nothing digits lost last finer fraction some apart low = (
  λ none. (zero, zero, (some, pow_pos digits, omega (arith, none))),
  λ (x, y, (l, m, e)).
      let wide : 2 ^ (digits + lost) ≤ 2 ^ finer = pow_mono apart in
      let one : magnitude digits x y * 2 ^ finer < 1 * 2 ^ finer = omega (arith, e, low, wide) in
      let least : magnitude digits x y < 1 = nat.lt_of_mul-lt-mul_right (2 ^ finer) one in
      let is : magnitude digits x y ≡ 0 = omega (arith, least) in
      let value : 0 * 2 ^ finer ≡ fraction = ap (λ n. n * 2 ^ finer) (sym is) ∙ e in
      omega (arith, value),
)
