-- A record with a limit.
use Rattle.std.specs.Prelude.{ℕ}
use Rattle.winnow_reader_limit.specs.declared.limit.Limited.{Limited}

-- this record, of at most that many bytes
abbrev pub limit_of : {R : Type 0} → R → ℕ → Limited R
limit_of inner greatest = record { inner = inner; greatest = greatest }
