-- Parts of an input as ranges of places.
use Rattle.std.specs.Prelude.{ℕ, ◌+◌}
use Rattle.std.specs.declared.ops.Range.{Range}

-- the part of width n that starts at place a
abbrev pub span : ℕ → ℕ → Range ℕ
span a n = record { start = a; end = a + n }
