-- The lines of a text, and how they are read.
use Rattle.std.specs.Prelude.{◌≡◌, ◌≢◌, ℕ, ◌==◌, Bool, not, ◌||◌, List, [], ◌∷◌, ◌++◌, Option, Some, None, Result, Ok, Err}
use Rattle.std.specs.Char.{is_ascii_alphabetic}
use Rattle.winnow_stream.specs.Source.{Source, width, first_token, held_front}
use Rattle.winnow_parser.specs.Outcome.{Ahead, after}
use Rattle.winnow_token.specs.OneOf.{after_one}
use Rattle.example_settings.specs.declared.fault.Wanted.{Wanted}
use Rattle.example_settings.specs.declared.fault.Wanted.TheVariants.{Key, Equals, Value}
use Rattle.example_settings.specs.declared.setting.Setting.{Setting}
use Rattle.example_settings.specs.declared.fault.Fault.{Fault}

-- a space or a tab
abbrev pub is_blank : ℕ → Bool
is_blank c = 32 == c || 9 == c

-- any character except a newline, which ends the line
abbrev pub is_in_line : ℕ → Bool
is_in_line c = not (10 == c)

-- the place after the characters of a set
abbrev pub behind : (ℕ → Bool) → Ahead ℕ → Ahead ℕ
behind holds a = after a (width (held_front holds a.tokens))

-- the place after the line: after its characters and the newline
abbrev pub behind_line : Ahead ℕ → Ahead ℕ
behind_line a = after_one (behind is_in_line a)

-- the place of the sign of a line: after the key and blanks
abbrev pub from_sign : Ahead ℕ → Ahead ℕ
from_sign a = behind is_blank (behind is_ascii_alphabetic a)

-- the place of the value: after the sign and blanks
abbrev pub from_value : Ahead ℕ → Ahead ℕ
from_value a = behind is_blank (after_one (from_sign a))

-- the slice is all characters of a set ahead, and there are some
abbrev pub IsPart : {T : Type 0} → (T → Source ℕ → ℕ → Type 0) → (ℕ → Bool) → Ahead ℕ → T → Type 0
IsPart is_slice holds a slice = is_slice slice a.tokens (width (held_front holds a.tokens)) × (held_front holds a.tokens ≢ [])

-- the line is a setting: its key, the sign, and its value to the end of the line
pub record IsSetting {T : Type 0} (is_slice : T → Source ℕ → ℕ → Type 0) (a : Ahead ℕ) (setting : Setting T) : Type 0 where
  pub key : IsPart is_slice is_ascii_alphabetic a setting.key
  pub sign : first_token (from_sign a).tokens ≡ Some 61
  pub value : IsPart is_slice is_in_line (from_value a) setting.value

-- the line breaks off as a setting at this rest, where this part is wanted
abbrev pub Lacks : Ahead ℕ → Wanted → Ahead ℕ → Type 0
Lacks a Key rest = (rest ≡ a) × (held_front is_ascii_alphabetic rest.tokens ≡ [])
Lacks a Equals rest = (rest ≡ from_sign a) × (held_front is_ascii_alphabetic a.tokens ≢ []) × (first_token rest.tokens ≢ Some 61)
Lacks a Value rest = (rest ≡ from_value a) × (held_front is_ascii_alphabetic a.tokens ≢ []) × (first_token (from_sign a).tokens ≡ Some 61) × (held_front is_in_line rest.tokens ≡ [])

-- the setting that the parts of a line make, or what is wanted after the last part
abbrev pub told : {T : Type 0} → Option ((T × T) × Option ((ℕ × T) × Option T))
    → Result (Setting T) Wanted
told (Some (key, Some (sign, Some value))) = Ok (record { key = key.0; value = value })
told (Some (key, Some (sign, None))) = Err Value
told (Some (key, None)) = Err Equals
told None = Err Key

-- the fault has what was wanted, and the location of the rest where it was wanted
pub record IsFault (a : Ahead ℕ) (fault : Fault) : Type 0 where
  pub what : Wanted
  pub rest : Ahead ℕ
  pub lacks : Lacks a what rest
  pub tells : fault.error.contexts ≡ what ∷ []
  pub place : rest.location ≡ Some fault.offset

-- the line is a setting, and no fault is recorded; or it is none, and its fault is recorded
abbrev pub IsRead : {T : Type 0} → (T → Source ℕ → ℕ → Type 0) → Ahead ℕ → Option (Setting T)
    → List Fault → List Fault → Type 0
IsRead is_slice a (Some setting) before after = IsSetting is_slice a setting × (after ≡ before)
IsRead is_slice a None before after = (fault : Fault) × (IsFault a fault × (after ≡ before ++ fault ∷ []))

-- the lines up to a rest are read as these settings, and their faults are added to those before: no
-- line, or one more, which is a setting or a fault
pub data AreRead {T : Type 0} (is_slice : T → Source ℕ → ℕ → Type 0) (a : Ahead ℕ) : List (Setting T) → List Fault → List Fault → Ahead ℕ → Type 0 where
  NoLine : {before : List Fault} → AreRead is_slice a [] before before a
  OneSetting : {settings : List (Setting T)} {before now after : List Fault} {line : Ahead ℕ}
      {setting : Setting T} → AreRead is_slice a settings before now line → line.tokens ≢ []
      → IsRead is_slice line (Some setting) now after
      → AreRead is_slice a (settings ++ setting ∷ []) before after (behind_line line)
  OneFault : {settings : List (Setting T)} {before now after : List Fault} {line : Ahead ℕ}
      → AreRead is_slice a settings before now line → line.tokens ≢ []
      → IsRead is_slice line None now after
      → AreRead is_slice a settings before after (behind_line line)
