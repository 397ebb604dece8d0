-- What is written of records with commas between their fields, in the words of their format: 44 is
-- a comma, and 10 a line feed.
use Rattle.std.specs.Prelude.{◌≡◌, ℕ, true, List, [], ◌∷◌, ◌++◌, Option}
use Rattle.std.specs.List.{flat_map}
use Rattle.std.specs.Io.KnownBytes.{Appends}
use Rattle.format_csv.specs.Tables.{AreRecords}
use Rattle.format_csv.specs.Marks.{HasText}
use Rattle.format_csv.specs.Writing.{written_record}
use Rattle.wb_csv.specs.declared.settings.Settings.{Settings}
use Rattle.wb_csv.specs.declared.settings.Layout.TheVariants.{Csv}

-- the settings are those without an option for what is written: all fields, and a comma between two
abbrev pub IsPlain : Settings → Type 0
IsPlain s = (s.layout ≡ Csv) × (s.columns.items ≡ []) × (s.delimiter ≡ 44)

-- records as the format writes them, each with a line feed after it
abbrev pub plain_lines : List (List (List ℕ)) → List ℕ
plain_lines rows = flat_map (λ row. written_record row ++ 10 ∷ []) rows

-- the input has a text, a mark of UTF-8 before it aside, that is these records, and they were
-- written
abbrev pub CopiesPlain : List ℕ → Option (List ℕ) → Option (List ℕ) → Type 0
CopiesPlain input held now = (text : List ℕ) × (HasText true input text
    × ((rows : List (List (List ℕ)))
    × (AreRecords text rows [] × Appends held now (plain_lines rows))))
