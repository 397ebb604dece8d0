-- Which records are written.
use Rattle.std.specs.Prelude.{◌≡◌, ◌≢◌, ℕ, ◌≤◌, ◌<◌, ◌-◌, max, false, List, [], ◌∷◌, ◌++◌, length, Option, None, Some, All, ⊤}
use Rattle.wb_csv.specs.declared.settings.Settings.{Settings}
use Rattle.wb_csv.specs.declared.settings.Wanted.{Wanted}
use Rattle.wb_csv.specs.declared.settings.Wanted.TheVariants.{First, Column, Text}
use Rattle.wb_csv.specs.declared.settings.Layout.TheVariants.{Json}
use Rattle.csv.specs.Records.{AllText}

-- the number of fields of the first record, if there is one
abbrev pub width_of : List (List (List ℕ)) → Option ℕ
width_of [] = None
width_of (row ∷ rows) = Some (length row)

-- the number of fields is that of the first record, if there was one
abbrev pub IsAlike : Option ℕ → ℕ → Type 0
IsAlike None fields = ⊤
IsAlike (Some first) fields = fields ≡ first

-- a record has all that it needs after a first one of this width
abbrev pub Fits : Settings → Option ℕ → List (List ℕ) → Type 0
Fits settings width row = (settings.least ≤ length row)
    × (settings.ragged ≡ false → IsAlike width (length row)) × (settings.layout ≡ Json → AllText row)

-- it lacks this
abbrev pub Refuses : Settings → Option ℕ → List (List ℕ) → Wanted → Type 0
Refuses settings width row (First first) =
    (settings.ragged ≡ false) × (width ≡ Some first) × (length row ≢ first)
Refuses settings width row (Column column) = (column ≡ settings.least) × (length row < column)
Refuses settings width row Text = (settings.layout ≡ Json) × (¬ (AllText row))

-- the records have all that they need
abbrev pub FitAll : Settings → List (List (List ℕ)) → Type 0
FitAll settings rows = All (λ row. settings.least ≤ length row) rows
    × (settings.ragged ≡ false → All (λ row. IsAlike (width_of rows) (length row)) rows)
    × (settings.layout ≡ Json → All AllText rows)

-- the field of a column, counted from 1, is written after the others, and each record must have it
abbrev pub Chooses : Settings → ℕ → Settings → Type 0
Chooses old column new = new ≡ record old {
  columns = new.columns;
  least = max old.least column;
} × (new.columns.items ≡ old.columns.items ++ (column - 1) ∷ [])
