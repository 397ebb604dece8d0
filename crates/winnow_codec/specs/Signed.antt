-- The numbers that stand for signed values.
use Rattle.std.specs.Prelude.{◌≡◌, ◌^◌, ◌<◌, ◌≤◌, ◌+◌, ℕ, ℤ, ◌⊎◌, cond, nat_le}
use Rattle.std.specs.Int.{w8, w16, w32, w64, w128, cast_signed, cast_unsigned}
use Rattle.std.proofs.Common.{inl, inr, ap, sym, ◌∙◌, arith}
use Rattle.std.proofs.lemmas.Bool.Decides.{leb_tells}
use Rattle.std.proofs.lemmas.Int.{of_z-to_z}
use Rattle.winnow_codec.specs.FormatNumbers.{IsOneToOne}

-- no two numbers of one, two, four, eight or sixteen bytes are the two's complement of one value
pub signed-one8 : IsOneToOne (256 ^ 1) (cast_signed w8)
signed-one8 m n p q e = sym (of_z-to_z w8 m p) ∙ ap (cast_unsigned w8) e ∙ of_z-to_z w8 n q

pub signed-one16 : IsOneToOne (256 ^ 2) (cast_signed w16)
signed-one16 m n p q e = sym (of_z-to_z w16 m p) ∙ ap (cast_unsigned w16) e ∙ of_z-to_z w16 n q

pub signed-one32 : IsOneToOne (256 ^ 4) (cast_signed w32)
signed-one32 m n p q e = sym (of_z-to_z w32 m p) ∙ ap (cast_unsigned w32) e ∙ of_z-to_z w32 n q

pub signed-one64 : IsOneToOne (256 ^ 8) (cast_signed w64)
signed-one64 m n p q e = sym (of_z-to_z w64 m p) ∙ ap (cast_unsigned w64) e ∙ of_z-to_z w64 n q

pub signed-one128 : IsOneToOne (256 ^ 16) (cast_signed w128)
signed-one128 m n p q e = sym (of_z-to_z w128 m p) ∙ ap (cast_unsigned w128) e ∙ of_z-to_z w128 n q

-- ---- Three bytes

-- the number of four bytes that has the sign of one of three: from 2^23 on the fourth byte is 255
abbrev pub extended_three : ℕ → ℕ
extended_three n = cond (nat_le 8388608 n) (n + 4278190080) n

-- the value of which a number is the two's complement in three bytes
abbrev pub signed_three : ℕ → ℤ
signed_three n = cast_signed w32 (extended_three n)

-- a number of three bytes has the sign of its third byte in four
extended-cases : (n : ℕ) → ((n < 8388608) × (extended_three n ≡ n))
    ⊎ ((8388608 ≤ n) × (extended_three n ≡ n + 4278190080))
extended-cases n = elim (leb_tells 8388608 n) [
  | inl more ↦ inr (omega (arith, more.1), ap (λ b. cond b (n + 4278190080) n) more.0)
  | inr fewer ↦ inl (omega (arith, fewer.1), ap (λ b. cond b (n + 4278190080) n) fewer.0)
]

extended-fits : (n : ℕ) → n < 256 ^ 3 → extended_three n < 2 ^ 32
extended-fits n p = elim (extended-cases n) [
  | inl low ↦ omega (arith, low.0, low.1)
  | inr high ↦ omega (arith, p, high.1)
]

extended-one : (m n : ℕ) → m < 256 ^ 3 → n < 256 ^ 3 → extended_three m ≡ extended_three n → m ≡ n
extended-one m n p q e = elim (extended-cases m) [
  | inl a ↦ elim (extended-cases n) [
    | inl b ↦ omega (arith, e, a.1, b.1)
    | inr b ↦ omega (arith, e, a.0, a.1, b.0, b.1)
  ]
  | inr a ↦ elim (extended-cases n) [
    | inl b ↦ omega (arith, e, a.0, a.1, b.0, b.1)
    | inr b ↦ omega (arith, e, a.1, b.1)
  ]
]

-- no two numbers of three bytes are the two's complement of one value
pub signed-one24 : IsOneToOne (256 ^ 3) signed_three
signed-one24 m n p q e =
    extended-one m n p q (sym (of_z-to_z w32 (extended_three m) (extended-fits m p)) ∙ ap (cast_unsigned w32) e ∙ of_z-to_z w32 (extended_three n) (extended-fits n q))
