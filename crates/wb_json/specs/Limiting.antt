-- Inputs of which no token is too long.
use Rattle.std.specs.Prelude.{◌≡◌, ℕ, Bool, true, false, List, [], ◌∷◌, ◌++◌, ⊤}
use Rattle.format_json_events.specs.Lengths.{IsShort}
use Rattle.wb_json.specs.Texts.{joined, AreLines}

-- no token of these lines has more bytes than the limit
abbrev pub AllShort : ℕ → List (List ℕ) → Type 0
AllShort limit [] = ⊤
AllShort limit (line ∷ lines) = IsShort limit line × AllShort limit lines

-- no token of an input has more bytes than the limit; where each line is a text, none of a line
abbrev pub IsShortInput : Bool → ℕ → List ℕ → Type 0
IsShortInput false limit input = IsShort limit input
IsShortInput true limit input = (lines : List (List ℕ)) × ((last : List ℕ)
    × ((input ≡ joined lines ++ last) × AreLines (lines ++ last ∷ [])
    × AllShort limit (lines ++ last ∷ [])))
