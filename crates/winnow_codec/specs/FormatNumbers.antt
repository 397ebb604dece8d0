-- The spellings of numbers, which have a fixed number of bytes.
use Rattle.std.specs.Prelude.{◌≡◌, ℕ, ◌^◌, ◌<◌, List, length, ◌++◌, take}
use Rattle.std.specs.Int.{bytes_low_first, bytes_high_first}
use Rattle.std.proofs.Common.{ap, sym, ◌∙◌}
use Rattle.std.proofs.Math.Seq.{take-append_seam}
use Rattle.winnow_codec.specs.Formats.{Spelling, IsFormat, IsEqual}
use Rattle.winnow_codec.specs.declared.widths.Width.{Width}
use Rattle.winnow_codec.specs.declared.widths.Width.TheVariants.{One, Two, Three, Four, Eight}

-- the number of bytes of this width
abbrev pub bytes_in : Width → ℕ
bytes_in One = 1
bytes_in Two = 2
bytes_in Three = 3
bytes_in Four = 4
bytes_in Eight = 8

-- the bytes of a number, as many as this: the most significant first
abbrev pub big_endian : ℕ → ℕ → List ℕ
big_endian count number = bytes_high_first count number

-- the bytes of a number, as many as this: the least significant first
abbrev pub little_endian : ℕ → ℕ → List ℕ
little_endian count number = bytes_low_first 0 count number

-- the number itself
abbrev pub unsigned : ℕ → ℕ
unsigned number = number

-- the value is spelled by the bytes, in this order, of the number that stands for it
abbrev pub SpellsNumber : {V : Type 0} → (ℕ → ℕ → List ℕ) → ℕ → (ℕ → V) → Spelling V
SpellsNumber order count value_of v bytes = (number : ℕ) × ((number < 256 ^ count) × (v ≡ value_of number) × (bytes ≡ order count number))

-- numbers below the limit that stand for one value are one
abbrev pub IsOneToOne : {V : Type 0} → ℕ → (ℕ → V) → Type 0
IsOneToOne limit of = (m n : ℕ) → m < limit → n < limit → of m ≡ of n → m ≡ n

-- the laws of an order of bytes: a number has as many bytes as its width says, or sixteen, and no
-- other number has them
pub record IsOrder (order : ℕ → ℕ → List ℕ) : Type 0 where
  pub count : (width : Width) (number : ℕ) → length (order (bytes_in width) number) ≡ bytes_in width
  pub tells : (width : Width) → IsOneToOne (256 ^ bytes_in width) (order (bytes_in width))
  pub wide_count : (number : ℕ) → length (order 16 number) ≡ 16
  pub wide_tells : IsOneToOne (256 ^ 16) (order 16)

module _ {V : Type 0} (order : ℕ → ℕ → List ℕ) (count : ℕ) (long : (number : ℕ) → length (order count number) ≡ count) (tells : IsOneToOne (256 ^ count) (order count)) (value_of : ℕ → V) (one : IsOneToOne (256 ^ count) value_of) where
  number-canonical : (v : V) (b c : List ℕ) → SpellsNumber order count value_of v b
      → SpellsNumber order count value_of v c → b ≡ c
  number-canonical v b c (m, (p, e, f)) (n, (q, d, g)) =
      f ∙ ap (order count) (one m n p q (sym e ∙ d)) ∙ sym g

  number-prefix_free : (v w : V) (b c r s : List ℕ) → SpellsNumber order count value_of v b
      → SpellsNumber order count value_of w c → b ++ r ≡ c ++ s → (v ≡ w) × (b ≡ c)
  number-prefix_free v w b c r s (m, (p, e, f)) (n, (q, d, g)) t =
      let k : length b ≡ length c = ap length f ∙ long m ∙ sym (long n) ∙ sym (ap length g) in
      let same : b ≡ c = sym (take-append_seam b r) ∙ ap (take (length b)) t ∙ ap (λ i. take i (c ++ s)) k ∙ take-append_seam c s in
      (e ∙ ap value_of (tells m n p q (sym f ∙ same ∙ g)) ∙ sym d, same)

  -- a number of a fixed width keeps the laws of a format
  pub IsFormat-Number : IsFormat IsEqual (SpellsNumber order count value_of)
  IsFormat-Number = record { canonical = number-canonical; prefix_free = number-prefix_free }
