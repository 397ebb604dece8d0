-- How values are written: without blanks, 91 and 93 around the elements of an array, 123 and 125
-- around the members of an object, 44 between two of these, and 58 after a name.
use Rattle.std.specs.Prelude.{ℕ, Bool, List, [], ◌∷◌, ◌++◌, map, ⊤}
use Rattle.std.specs.List.{flat_map}
use Rattle.std.specs.String.{string_bytes}
use Rattle.std.specs.declared.string.String.{String}
use Rattle.std.specs.declared.alloc.Global.{Global}
use Rattle.format_lemmas.specs.Bytes.{EndsRun}
use Rattle.format_json_scalars.specs.Numbers.{is_number_byte}
use Rattle.format_json.specs.Language.{null_word, bool_word, ValueAhead}
use Rattle.format_json.specs.Documents.{IsDocument}
use Rattle.format_json_scalars.specs.Quoting.{written_string}
use Rattle.format_json.specs.declared.value.Value.{Value}
use Rattle.format_json.specs.declared.value.Value.TheOpen as open_value
use Rattle.format_json.specs.declared.value.Value.TheOpen.{Value-F, Null}
use Rattle.format_json.specs.declared.value.Value.TheFolds.{fold-Value}
use Rattle.format_json.specs.declared.writing.Unwritten.{Unwritten}
use Rattle.format_json.specs.declared.writing.Unwritten.TheVariants.{NoNumber, TooDeep, Refused}

-- texts in a row, with a comma between two
abbrev pub listed : List (List ℕ) → List ℕ
listed [] = []
listed (text ∷ texts) = text ++ flat_map (λ next. 44 ∷ next) texts

-- a member: its name, a colon, and the text of its value
abbrev pub written_member : String Global × List ℕ → List ℕ
written_member member = written_string (string_bytes member.0) ++ 58 ∷ member.1

-- the layer of a value, from the texts of the values inside it
abbrev pub layer_written : Value-F (List ℕ) → List ℕ
layer_written Null = null_word
layer_written (open_value.Bool b) = bool_word b
layer_written (open_value.Number number) = number.text.items
layer_written (open_value.String value) = written_string (string_bytes value)
layer_written (open_value.Array elements) = 91 ∷ (listed elements.items ++ 93 ∷ [])
layer_written (open_value.Object members) =
    123 ∷ (listed (map written_member members.items) ++ 125 ∷ [])

-- the text that is written for a value
abbrev pub written : Value → List ℕ
written = fold-Value (List ℕ) layer_written

-- the text that is written of the value begins with that value, before each continuation that does
-- not continue a number
abbrev pub IsReadBack : ℕ → Value → Type 0
IsReadBack depth value = (partial : Bool) (rest : List ℕ) → EndsRun is_number_byte partial rest
    → ValueAhead partial depth value (written value ++ rest) rest

-- no text is the value within the limit on depth, or within any limit, unless memory was refused
abbrev pub IsWhy : ℕ → Value → Unwritten → Type 0
IsWhy depth value TooDeep = (text : List ℕ) → ¬ (IsDocument depth text value)
IsWhy depth value NoNumber = (limit : ℕ) (text : List ℕ) → ¬ (IsDocument limit text value)
IsWhy depth value (Refused e) = ⊤
