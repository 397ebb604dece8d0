-- Records as lines: 34 is a quote, 44 a comma, 91 and 93 are brackets, 92 is a backslash, and 10 a
-- line feed.
use Rattle.std.specs.Prelude.{ℕ, ◌+◌, ◌-◌, ◌/◌, ◌%◌, ◌==◌, ◌||◌, nat_lt, if◌then◌else◌, List, [], ◌∷◌, ◌++◌, map, get_or}
use Rattle.std.specs.List.{flat_map}
use Rattle.format_csv.specs.Writing.{written_field}
use Rattle.wb_base.specs.Exchanging.{exchanged}
use Rattle.wb_csv.specs.declared.settings.Settings.{Settings}
use Rattle.wb_csv.specs.declared.settings.Layout.{Layout}
use Rattle.wb_csv.specs.declared.settings.Layout.TheVariants.{Csv, Json, Nothing}

-- a hexadecimal digit
abbrev pub hex_digit : ℕ → ℕ
hex_digit digit = if nat_lt digit 10 then 48 + digit else 97 + (digit - 10)

-- a byte of a string of JSON: a quote and a backslash after a backslash, a control character by its
-- number, and any other byte as it stands
abbrev pub escape : ℕ → List ℕ
escape byte = if byte == 34 || byte == 92 then 92 ∷ byte ∷ []
    else (if nat_lt byte 32 then 92 ∷ 117 ∷ 48 ∷ 48 ∷ hex_digit (byte / 16) ∷ hex_digit (byte % 16) ∷ []
    else byte ∷ [])

-- a field as a string of JSON
abbrev pub string_of : List ℕ → List ℕ
string_of value = 34 ∷ (flat_map escape value ++ 34 ∷ [])

-- a field as it is written
abbrev pub field_by : Layout → List ℕ → List ℕ
field_by Csv value = written_field value
field_by Json value = string_of value
field_by Nothing value = []

-- the bytes in which the comma (44) and the delimiter took each other's place
abbrev pub exchanged_by : Settings → List ℕ → List ℕ
exchanged_by settings bytes = exchanged 44 settings.delimiter bytes

-- a field that was read, as it is written
abbrev pub field_of : Settings → List ℕ → List ℕ
field_of settings value = field_by settings.layout (exchanged_by settings value)

-- texts with commas between them
abbrev pub joined : List (List ℕ) → List ℕ
joined [] = []
joined (text ∷ texts) = text ++ flat_map (λ next. 44 ∷ next) texts

-- the field with this index, or an empty one
abbrev pub pick : List (List ℕ) → ℕ → List ℕ
pick values index = get_or values index []

-- the fields with these indices, or all if there are none
abbrev pub chosen : List ℕ → List (List ℕ) → List (List ℕ)
chosen [] values = values
chosen (index ∷ indices) values = map (pick values) (index ∷ indices)

-- what stands before the fields
abbrev pub opening : Layout → List ℕ
opening Csv = []
opening Json = 91 ∷ []
opening Nothing = []

-- what stands after the fields
abbrev pub closing : Layout → List ℕ
closing Csv = 10 ∷ []
closing Json = 93 ∷ 10 ∷ []
closing Nothing = []

-- the texts of fields as a line
abbrev pub line_by : Layout → List (List ℕ) → List ℕ
line_by Nothing texts = []
line_by Csv texts = joined texts ++ 10 ∷ []
line_by Json texts = 91 ∷ (joined texts ++ 93 ∷ 10 ∷ [])

-- a record as a line
abbrev pub line_of : Settings → List (List ℕ) → List ℕ
line_of settings values =
    line_by settings.layout (map (field_of settings) (chosen settings.columns.items values))
