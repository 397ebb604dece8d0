-- The number that bytes write, one byte after another.
use Rattle.std.specs.Prelude.{ℕ, ◌+◌, ◌*◌, ◌^◌}
use Rattle.winnow_binary.specs.declared.endianness.Endianness.{Endianness}
use Rattle.winnow_binary.specs.declared.endianness.Endianness.TheVariants.{Big, Little, Native}

-- the number of `count` bytes that write n and of one byte after them
abbrev pub with_byte : Endianness → ℕ → ℕ → ℕ → ℕ
with_byte Big count n byte = n * 256 + byte
with_byte Little count n byte = n + 256 ^ count * byte
with_byte Native count n byte = n + 256 ^ count * byte
