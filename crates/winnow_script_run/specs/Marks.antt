use Rattle.std.specs.Prelude.{ℕ, ◌<◌, List, length, vec_capacity}
use Rattle.winnow_script_run.specs.declared.marks.Marks.{Marks}

-- the places of the marks, in the order in which they were made
abbrev pub places_of : Marks → List ℕ
places_of marks = marks.places.items

-- the number of marks for which there is room
abbrev pub room_of : Marks → ℕ
room_of marks = vec_capacity marks.places

-- there is room for a further mark
abbrev pub HasRoom : Marks → Type 0
HasRoom marks = length (places_of marks) < room_of marks
