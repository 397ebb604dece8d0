-- Floats in the shortest form that keeps their value (RFC 8949, sections 4.1 and 4.2.2).
use Rattle.std.specs.Prelude.{◌≡◌, ℕ, zero, suc, ◌+◌, ◌*◌, ◌/◌, ◌%◌, ◌^◌, ◌<◌}

-- how many times the least float above 0 of its width a finite float is, by its exponent and its
-- fraction, which has this number of bits (IEEE 754)
abbrev pub magnitude : ℕ → ℕ → ℕ → ℕ
magnitude digits zero fraction = fraction
magnitude digits (suc exponent) fraction = (2 ^ digits + fraction) * 2 ^ exponent

-- a finite float has this magnitude, which is in units 2 ^ `finer` times as small as its own. Its
-- fraction has this number of bits, and its exponent is below this one
abbrev pub IsMagnitudeOf : ℕ → ℕ → ℕ → ℕ → Type 0
IsMagnitudeOf digits last finer n = (exponent fraction : ℕ)
    × ((exponent < last) × (fraction < 2 ^ digits) × (magnitude digits exponent fraction * 2 ^ finer ≡ n))

-- a finite half has the magnitude of a single
abbrev pub HasHalf : ℕ → Type 0
HasHalf single = IsMagnitudeOf 10 31 125 (magnitude 23 (single / 2 ^ 23 % 256) (single % 2 ^ 23))

-- a finite single has the magnitude of a double
abbrev pub HasSingle : ℕ → Type 0
HasSingle double = IsMagnitudeOf 23 255 925 (magnitude 52 (double / 2 ^ 52 % 2048) (double % 2 ^ 52))

-- a half has no shorter form, and a NaN one alone: 7e00
abbrev pub IsShortestHalf : ℕ → Type 0
IsShortestHalf half = 31744 < half % 2 ^ 15 → half ≡ 32256

-- a single has no shorter form: it is finite, and no half has its magnitude
abbrev pub IsShortestSingle : ℕ → Type 0
IsShortestSingle single = (single / 2 ^ 23 % 256 < 255) × (HasHalf single → ⊥)

-- a double has no shorter form: it is finite, and no single has its magnitude
abbrev pub IsShortestDouble : ℕ → Type 0
IsShortestDouble double = (double / 2 ^ 52 % 2048 < 2047) × (HasSingle double → ⊥)
