-- What is kept of the records so far.
use Rattle.std.specs.Prelude.{◌≡◌, ℕ, ◌+◌, List, length, Option, None, Some}
use Rattle.std.specs.List.{sum_by}
use Rattle.wb_base.specs.Positions.{line_feeds}
use Rattle.wb_csv.specs.Settings.{Refuses}
use Rattle.wb_csv.specs.declared.settings.Settings.{Settings}
use Rattle.wb_csv.specs.declared.settings.Wanted.{Wanted}
use Rattle.wb_csv.specs.declared.progress.Progress.{Progress}
use Rattle.wb_csv.specs.declared.failure.Failure.{Failure}
use Rattle.wb_csv.specs.declared.failure.Failure.TheVariants.{Uneven}

-- how many line feeds a record takes: those in its fields, and the one at its end
abbrev pub feeds_of : List (List ℕ) → ℕ
feeds_of row = 1 + sum_by line_feeds row

-- how many line feeds records take
abbrev pub feeds_in : List (List (List ℕ)) → ℕ
feeds_in rows = sum_by feeds_of rows

-- the number of fields of the first record, after one more
abbrev pub kept_width : Option ℕ → ℕ → Option ℕ
kept_width None fields = Some fields
kept_width (Some first) fields = Some first

-- a record lacks something, and the failure says so
abbrev pub IsOther : Settings → Progress → List (List ℕ) → Failure → Type 0
IsOther settings progress row failure = (wanted : Wanted)
    × (Refuses settings progress.width row wanted
    × (failure ≡ Uneven (progress.feeds + 1) (length row) wanted))
