-- Texts that are one value.
use Rattle.std.specs.Prelude.{◌≡◌, ◌≢◌, ℕ, suc, ◌≤◌, false, List, [], ◌⊎◌, length, drop}
use Rattle.format_json.specs.Language.{after_blanks, ValueAhead}
use Rattle.format_json.specs.Damage.{BreaksOff}
use Rattle.format_json.specs.SameValues.{SameValue}
use Rattle.format_json.specs.declared.value.Value.{Value}
use Rattle.format_json.specs.declared.reading.Damage.{Damage}

-- the text is this value, with blanks around it
abbrev pub IsDocument : ℕ → List ℕ → Value → Type 0
IsDocument depth text value =
    (rest : List ℕ) × (ValueAhead false depth value text rest × (after_blanks rest ≡ []))

-- each value that the text is, is this one
abbrev pub IsOnlyDocument : ℕ → List ℕ → Value → Type 0
IsOnlyDocument depth text value =
    (other : Value) → IsDocument depth text other → SameValue (suc depth) value other

-- a text breaks off at the rest: a value does; or one ends, and after blanks something else follows
abbrev pub TextBreaksOff : ℕ → List ℕ → List ℕ → Type 0
TextBreaksOff depth text rest = BreaksOff false depth text rest
    ⊎ ((value : Value) × ((after : List ℕ) × (ValueAhead false depth value text after
    × (rest ≡ after_blanks after) × (rest ≢ []))))

-- the text is no value, and it breaks off at the offset, which is at most its length
abbrev pub IsDamage : ℕ → List ℕ → Damage → Type 0
IsDamage depth text damage = (damage.offset ≤ length text)
    × ((value : Value) → ¬ (IsDocument depth text value))
    × TextBreaksOff depth text (drop damage.offset text)
