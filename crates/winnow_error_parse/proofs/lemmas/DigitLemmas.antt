-- The number of digits that a number of 128 bits has.
use Rattle.std.proofs.Common.{◌≡◌, ◌<◌, ◌≤◌, ◌+◌, ◌/◌, ◌%◌, ◌^◌, ℕ, length, ap, ◌∙◌, arith}
use Rattle.std.specs.Fmt.{decimal}
use Rattle.std.proofs.lemmas.Fmt.{decimal_digit, decimal_step_wide, length-decimal-le_wide}
use Rattle.std.proofs.lemmas.List.{length_push}

-- a number of 128 bits is below 10 ^ 64
wide : (n : ℕ) → n < 2 ^ 128 → n < 10 ^ 64
wide n fits = omega (arith, fits)

-- a number below 10 has one digit
pub length-decimal-digit : (n : ℕ) → n < 10 → length (decimal n) ≡ 1
length-decimal-digit n small = ap length (decimal_digit n small)

-- any other number has one digit more than its tenth
pub length-decimal-step : (n : ℕ) → 10 ≤ n → n < 2 ^ 128
    → length (decimal n) ≡ length (decimal (n / 10)) + 1
length-decimal-step n large fits = ap length (decimal_step_wide n large (wide n fits)) ∙ length_push (decimal (n / 10)) (48 + n % 10)

-- the count of digits is at most 64, so that it does not overflow
pub length-decimal-le : (n : ℕ) → n < 2 ^ 128 → length (decimal n) ≤ 64
length-decimal-le n fits = length-decimal-le_wide 64 n (omega arith) (wide n fits) (wide n fits)
