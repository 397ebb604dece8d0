-- What the program writes of a text, and when it fails, in the words of the format.
use Rattle.std.specs.Prelude.{ℕ, List, Option}
use Rattle.std.specs.Io.KnownBytes.{Appends}
use Rattle.format_json.specs.Documents.{IsDocument, IsDamage}
use Rattle.format_json_events.specs.ValueEvents.{events_of}
use Rattle.format_json.specs.declared.value.Value.{Value}
use Rattle.format_json.specs.declared.reading.Damage.{Damage}
use Rattle.wb_json.specs.Failures.{IsNoText}
use Rattle.wb_json.specs.Printing.{written}
use Rattle.wb_json.specs.declared.settings.Settings.{Settings}
use Rattle.wb_json.specs.declared.failure.Failure.{Failure}

-- the input is not damaged, and where it is a value, the lines of the events of that were written
pub record PrintsValue (s : Settings) (input : List ℕ) (held now : Option (List ℕ)) : Type 0 where
  pub sound : (damage : Damage) → ¬ (IsDamage s.depth input damage)
  pub lines : (value : Value) → IsDocument s.depth input value
      → Appends held now (written s (events_of value))

-- a failure that says that a text is none comes of no input that is a value
abbrev pub IsOfNoValue : ℕ → List ℕ → Failure → Type 0
IsOfNoValue depth input failure =
    IsNoText failure → (value : Value) → ¬ (IsDocument depth input value)
