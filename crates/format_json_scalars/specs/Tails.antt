-- The first bytes of a character of a string.
use Rattle.std.specs.Prelude.{◌≡◌, ℕ, List, [], ◌∷◌, ◌++◌, drop, ◌⊎◌, ⊤}
use Rattle.format_lemmas.specs.Bytes.{StartsWith}
use Rattle.format_json_scalars.specs.Strings.{SpellsChars}
use Rattle.format_json_scalars.specs.Escapes.{MayBeChar}
use Rattle.format_json_scalars.specs.Steps.{HasRead, IsStep}
use Rattle.format_json_scalars.specs.declared.characters.Step.{Step}
use Rattle.format_json_scalars.specs.declared.characters.Step.TheVariants.{Taken, Ended, Begun, Wrong}

-- these bytes are a quote, characters, and the first bytes of one more, perhaps none
abbrev pub EndsInTail : List ℕ → List ℕ → Type 0
EndsInTail here tail = (n : ℕ) × ((value : List ℕ) × (HasRead here n value × (drop n here ≡ tail)
    × ¬ (StartsWith 34 tail) × MayBeChar tail))

-- the bytes are whole characters, and are dropped; or they are kept, and may become one
abbrev pub IsSettled : List ℕ → List ℕ → Type 0
IsSettled old new = ((new ≡ []) × ((cs : List ℕ) × SpellsChars cs old))
    ⊎ ((new ≡ old) × MayBeChar old)

-- a byte more, and these bytes end in the new tail, if they did in the old one
abbrev pub StaysInText : List ℕ → ℕ → List ℕ → List ℕ → Type 0
StaysInText here byte old new = EndsInTail here old → EndsInTail (here ++ byte ∷ []) new

-- what stands at the front of the bytes in a string: characters, of n bytes; or the first bytes of
-- one. Of a quote and of what is wrong nothing is said
abbrev pub IsCharAt : List ℕ → Step → Type 0
IsCharAt bytes (Taken n) = (new : List ℕ) × IsStep bytes [] (Taken n) new
IsCharAt bytes Ended = ⊤
IsCharAt bytes Begun = MayBeChar bytes
IsCharAt bytes Wrong = ⊤
