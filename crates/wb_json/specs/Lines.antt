-- Events as they are written: 10 is a line feed, 36 a dollar sign, 44 a comma, 46 a point, 58 a
-- colon and 95 a low line; 91 and 93 are the brackets of an array, 123 and 125 those of an object.
use Rattle.std.specs.Prelude.{ℕ, ◌==◌, ◌||◌, ◌&&◌, Bool, false, if◌then◌else◌, List, [], ◌∷◌, ◌++◌, codes, decimal}
use Rattle.std.specs.List.{flat_map, list_all}
use Rattle.std.specs.Char.{is_ascii_alphabetic, is_ascii_digit}
use Rattle.std.specs.String.{string_bytes}
use Rattle.format_json.specs.Language.{null_word, bool_word}
use Rattle.format_json.specs.Quoting.{written_string}
use Rattle.format_json_events.specs.declared.event_reader.Event.{Event}
use Rattle.format_json_events.specs.declared.event_reader.Event.TheVariants.{StartArray, EndArray, StartObject, EndObject, Key, Null, Bool as Truth, Number, String}
use Rattle.wb_json.specs.Paths.{Place, closed, moved}
use Rattle.wb_json.specs.declared.path.Step.{Step}
use Rattle.wb_json.specs.declared.path.Step.TheVariants.{Root, Element, Inside, Member}
use Rattle.wb_json.specs.declared.settings.Layout.{Layout}
use Rattle.wb_json.specs.declared.settings.Layout.TheVariants.{Assignments, Values, Nothing}

-- ---- Paths

-- an identifier begins with a letter of ASCII, a dollar sign or a low line
abbrev pub begins_name : ℕ → Bool
begins_name byte = is_ascii_alphabetic byte || (36 == byte || 95 == byte)

-- and goes on with these and digits
abbrev pub continues_name : ℕ → Bool
continues_name byte = begins_name byte || is_ascii_digit byte

-- the name is an identifier
abbrev pub is_identifier : List ℕ → Bool
is_identifier [] = false
is_identifier (byte ∷ bytes) = begins_name byte && list_all continues_name bytes

-- a member: an identifier after a point, and any other name as a string in brackets
abbrev pub member_text : List ℕ → List ℕ
member_text name =
    if is_identifier name then 46 ∷ name else 91 ∷ (written_string name ++ 93 ∷ [])

-- a step
abbrev pub step_text : Step → List ℕ
step_text Root = []
step_text (Element index) = 91 ∷ (decimal index ++ 93 ∷ [])
step_text Inside = []
step_text (Member name) = member_text (string_bytes name)

-- a path
abbrev pub path_text : Place → List ℕ
path_text p = codes "json" ++ (flat_map step_text p.outer ++ step_text p.here)

-- ---- Values

-- a value that is no array and no object; of an array or an object the brackets
abbrev pub value_text : Event → List ℕ
value_text StartArray = codes "[]"
value_text StartObject = codes "{}"
value_text Null = null_word
value_text (Truth b) = bool_word b
value_text (Number number) = number.text.items
value_text (String value) = written_string (string_bytes value)
value_text other = []

-- an assignment of a value to the path, as a line
abbrev pub assignment : Place → List ℕ → List ℕ
assignment p value = path_text p ++ (codes " = " ++ (value ++ codes ";\n"))

-- the assignment of an event, if a value begins with it
abbrev pub assigned : Place → Event → List ℕ
assigned p (Key name) = []
assigned p EndArray = []
assigned p EndObject = []
assigned p event = assignment p (value_text event)

-- ---- Texts without blanks

-- what stands before a value: in an array a comma, but for the first element
abbrev pub comma_before : Step → List ℕ
comma_before (Element index) = if 0 == index then [] else 44 ∷ []
comma_before other = []

-- what stands before a name: a comma, but for the first one of its object
abbrev pub comma_between : Step → List ℕ
comma_between Inside = []
comma_between other = 44 ∷ []

-- what stands after a value: where no array and no object is open, a line feed
abbrev pub feed_after : List Step → List ℕ
feed_after [] = 10 ∷ []
feed_after (step ∷ steps) = []

-- an event of a text without blanks
abbrev pub compact : Place → Event → List ℕ
compact p StartArray = comma_before p.here ++ 91 ∷ []
compact p StartObject = comma_before p.here ++ 123 ∷ []
compact p EndArray = 93 ∷ feed_after (closed p).outer
compact p EndObject = 125 ∷ feed_after (closed p).outer
compact p (Key name) = comma_between p.here ++ (written_string (string_bytes name) ++ 58 ∷ [])
compact p value = comma_before p.here ++ (value_text value ++ feed_after p.outer)

-- ---- Lines

-- an event at a place
abbrev pub line_of : Layout → Place → Event → List ℕ
line_of Assignments p event = assigned p event
line_of Values p event = compact p event
line_of Nothing p event = []

-- events, of which the first is at this place
abbrev pub lines_at : Layout → Place → List Event → List ℕ
lines_at layout p [] = []
lines_at layout p (event ∷ events) =
    line_of layout p event ++ lines_at layout (moved p event) events
