-- The numbers that C knows statuses by.
use Rattle.std.specs.Prelude.{ℕ}
use Rattle.woldbraid_writers.specs.declared.status.Status.{Status}
use Rattle.woldbraid_writers.specs.declared.status.Status.TheVariants as status

-- of a status
abbrev pub status_code : Status → ℕ
status_code status.Ok = 0
status_code status.Refused = 6
status_code status.Unexpected = 8
status_code status.TooDeep = 9
status_code status.OtherFormat = 11
status_code status.NoNumber = 12
status_code status.BadUtf8 = 13
status_code status.LineEnd = 14
