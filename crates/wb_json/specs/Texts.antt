-- The texts of an input, and their events: 10 is a line feed.
use Rattle.std.specs.Prelude.{◌≡◌, ℕ, Bool, true, false, List, [], ◌∷◌, ◌++◌, None, ◌⊎◌, ⊤}
use Rattle.std.specs.List.{flat_map}
use Rattle.wb_base.specs.Positions.{line_feeds}
use Rattle.format_json.specs.Language.{after_blanks}
use Rattle.format_json_events.specs.Reading.{EventState, HasGiven, IsWhole}
use Rattle.format_json_events.specs.Lengths.{IsShort}
use Rattle.format_json_events.specs.declared.event_reader.Event.{Event}
use Rattle.wb_json.specs.declared.settings.Settings.{Settings}

-- the reader has read all of its input, which is a whole text
abbrev pub IsDone : EventState → Type 0
IsDone r = (r.stopped ≡ None) × IsWhole r

-- the bytes are a whole text, of which a reader with the limit on depth gives these events, and no
-- token of which has more bytes than the limit
abbrev pub IsText : Settings → List ℕ → List Event → Type 0
IsText s text events = (r : EventState)
    × ((r.text.depth ≡ s.depth) × HasGiven r text events × IsDone r × IsShort s.limit text)

-- ---- Lines

-- the bytes are of one line, and so are those of each of these
abbrev pub IsLine : List ℕ → Type 0
IsLine bytes = line_feeds bytes ≡ 0

abbrev pub AreLines : List (List ℕ) → Type 0
AreLines [] = ⊤
AreLines (line ∷ lines) = IsLine line × AreLines lines

-- the bytes are blanks
abbrev pub IsBlank : List ℕ → Type 0
IsBlank bytes = after_blanks bytes ≡ []

-- lines, each with its line feed
abbrev pub joined : List (List ℕ) → List ℕ
joined lines = flat_map (λ line. line ++ 10 ∷ []) lines

-- the bytes are some blanks, and then a whole text with these events
abbrev pub IsTextLine : Settings → List ℕ → List Event → Type 0
IsTextLine s line events = (blanks : List ℕ) × ((text : List ℕ)
    × ((line ≡ blanks ++ text) × IsBlank blanks × IsText s text events))

-- the events of a line: of a blank one none, and of any other those of its text
abbrev pub LineHas : Settings → List ℕ → List Event → Type 0
LineHas s line events = (IsBlank line × (events ≡ [])) ⊎ IsTextLine s line events

-- the events of lines, one after the other
abbrev pub LinesHave : Settings → List (List ℕ) → List Event → Type 0
LinesHave s [] events = events ≡ []
LinesHave s (line ∷ lines) events = (first : List Event) × ((rest : List Event)
    × ((events ≡ first ++ rest) × LineHas s line first × LinesHave s lines rest))

-- ---- The input

-- an input has these events: it is a text; or each of its lines is one, or blank
abbrev pub InputHas : Bool → Settings → List ℕ → List Event → Type 0
InputHas false s input events = IsText s input events
InputHas true s input events = (lines : List (List ℕ)) × ((last : List ℕ)
    × ((input ≡ joined lines ++ last) × AreLines (lines ++ last ∷ [])
    × LinesHave s (lines ++ last ∷ []) events))

-- before a text of an input stand these bytes, with these events: none; or whole lines, and the
-- first blanks of its line
abbrev pub IsBefore : Bool → Settings → List ℕ → List Event → Type 0
IsBefore false s head events = (head ≡ []) × (events ≡ [])
IsBefore true s head events = (lines : List (List ℕ)) × ((blanks : List ℕ)
    × ((head ≡ joined lines ++ blanks) × AreLines lines × IsLine blanks × IsBlank blanks
    × LinesHave s lines events))

-- a text of an input is of one line, if each line is a text
abbrev pub IsWithin : Bool → List ℕ → Type 0
IsWithin by_lines text = by_lines ≡ true → IsLine text

-- a text of an input has ended before these bytes: none; or, where each line is a text, a line feed
abbrev pub IsAfter : Bool → List ℕ → Type 0
IsAfter by_lines rest =
    (rest ≡ []) ⊎ ((by_lines ≡ true) × ((more : List ℕ) × (rest ≡ 10 ∷ more)))
