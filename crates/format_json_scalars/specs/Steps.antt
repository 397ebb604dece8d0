-- How the reader of strings goes on.
use Rattle.std.specs.Prelude.{◌≡◌, ◌≢◌, ℕ, ◌<◌, ◌≤◌, List, [], ◌∷◌, ◌++◌, length, take, drop, encode_utf8_all}
use Rattle.format_lemmas.specs.Bytes.{StartsWith}
use Rattle.format_json_scalars.specs.Strings.{SpellsChars, StringAhead}
use Rattle.format_json_scalars.specs.StringAnswers.{HasChars}
use Rattle.format_json_scalars.specs.Escapes.{MayBeChar, IsNoChar}
use Rattle.format_json_scalars.specs.declared.characters.Step.{Step}
use Rattle.format_json_scalars.specs.declared.characters.Step.TheVariants.{Taken, Ended}
use Rattle.format_json_scalars.specs.declared.characters.Step.TheVariants as step
use Rattle.format_json_scalars.specs.declared.strings.Reading.{Reading}
use Rattle.format_json_scalars.specs.declared.strings.Reading.TheVariants.{Nothing, Missing, Damaged}
use Rattle.format_json_scalars.specs.declared.strings.Reading.TheVariants as reading

-- the step consumes n bytes, and appends the characters that they spell to a value; or the bytes
-- begin with the closing quote; or they may become a character; or neither
abbrev pub IsStep : List ℕ → List ℕ → Step → List ℕ → Type 0
IsStep bytes old (Taken n) new = (0 < n) × (n ≤ length bytes)
    × ((cs : List ℕ) × (SpellsChars cs (take n bytes) × (new ≡ old ++ encode_utf8_all cs)))
IsStep bytes old Ended new = StartsWith 34 bytes × (new ≡ old)
IsStep bytes old step.Begun new = ¬ (StartsWith 34 bytes) × MayBeChar bytes
IsStep bytes old step.Wrong new = ¬ (StartsWith 34 bytes) × IsNoChar bytes

-- the first n bytes are the opening quote and characters, which no closing quote follows
abbrev pub StopsAt : List ℕ → ℕ → Type 0
StopsAt bytes n = (n ≤ length bytes) × ¬ (StartsWith 34 (drop n bytes))
    × ((text : List ℕ) × ((cs : List ℕ)
    × ((bytes ≡ 34 ∷ (text ++ drop n bytes)) × SpellsChars cs text)))

-- the first n bytes are the opening quote and characters, and the value has these
abbrev pub HasRead : List ℕ → ℕ → List ℕ → Type 0
HasRead bytes n value = (n ≤ length bytes) × ((text : List ℕ) × ((cs : List ℕ)
    × ((bytes ≡ 34 ∷ (text ++ drop n bytes)) × SpellsChars cs text × (value ≡ encode_utf8_all cs))))

-- what the bytes are as a string: nothing; no string; a whole one; one that more bytes can make
-- whole; or one that no bytes can
abbrev pub IsReading : List ℕ → Reading → Type 0
IsReading bytes Nothing = bytes ≡ []
IsReading bytes Missing = (bytes ≢ []) × ¬ (StartsWith 34 bytes)
IsReading bytes (reading.Whole value n) = (n ≤ length bytes)
    × ((cs : List ℕ) × (StringAhead bytes cs (drop n bytes) × HasChars value cs))
IsReading bytes (reading.Begun n) = StopsAt bytes n × MayBeChar (drop n bytes)
IsReading bytes (Damaged n) = StopsAt bytes n × IsNoChar (drop n bytes)
