-- Events as lines: 91 and 93 are the brackets of an array, 123 and 125 those of an object, 58 is a
-- colon, 32 a space and 10 a line feed.
use Rattle.std.specs.Prelude.{ℕ, ◌+◌, ◌-◌, ◌*◌, min, List, [], ◌∷◌, ◌++◌, replicate}
use Rattle.std.specs.String.{string_bytes}
use Rattle.format_json.specs.Language.{null_word, bool_word}
use Rattle.format_json.specs.Quoting.{written_string}
use Rattle.format_json_events.specs.declared.event_reader.Event.{Event}
use Rattle.format_json_events.specs.declared.event_reader.Event.TheVariants.{StartArray, EndArray, StartObject, EndObject, Key, Null, Bool, Number, String}

-- what shows an event: a bracket; the name of a member and a colon; or a value that is no array and
-- no object
abbrev pub shown : Event → List ℕ
shown StartArray = 91 ∷ []
shown EndArray = 93 ∷ []
shown StartObject = 123 ∷ []
shown EndObject = 125 ∷ []
shown (Key name) = written_string (string_bytes name) ++ 58 ∷ []
shown Null = null_word
shown (Bool b) = bool_word b
shown (Number number) = number.text.items
shown (String value) = written_string (string_bytes value)

-- the line of an event that stands within this many arrays and objects: two spaces for each, and
-- what shows it
abbrev pub line_of : ℕ → Event → List ℕ
line_of level event = replicate (2 * level) 32 ++ (shown event ++ 10 ∷ [])

-- how many arrays and objects are open after an event, from how many were
abbrev pub level_after : ℕ → Event → ℕ
level_after level StartArray = level + 1
level_after level EndArray = level - 1
level_after level StartObject = level + 1
level_after level EndObject = level - 1
level_after level other = level

-- the same after some events
abbrev pub level_by : ℕ → List Event → ℕ
level_by level [] = level
level_by level (event ∷ events) = level_by (level_after level event) events

-- the lines of events of which the first comes where this many arrays and objects are open: a
-- bracket stands within those that are open both before and after it
abbrev pub lines_at : ℕ → List Event → List ℕ
lines_at level [] = []
lines_at level (event ∷ events) =
    line_of (min level (level_after level event)) event ++ lines_at (level_after level event) events

-- the lines of the events of a text
abbrev pub lines_of : List Event → List ℕ
lines_of events = lines_at 0 events
