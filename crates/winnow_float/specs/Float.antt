-- The float that a text writes.
use Rattle.std.specs.Prelude.{◌≡◌, ℕ, List, Option, Some, None, MatchOption}
use Rattle.std.specs.Float.Ieee as ieee
use Rattle.fast_float.specs.Parse.{parse_float}
use Rattle.winnow_stream.specs.Source.{Source}
use Rattle.winnow_stream.specs.Longer.{SlicesStay}
use Rattle.winnow_parser.specs.Outcome.{Meaning}
use Rattle.winnow_parser.specs.Laws.{IsParser}
use Rattle.winnow_parser.specs.Meanings.{VerifyMaps}
use Rattle.winnow_parser.specs.Parts.{IsParser-VerifyMaps}
use Rattle.winnow_parser.specs.Taken.{Taken, IsParser-Taken}
use Rattle.winnow_float.specs.FloatText.{IsFloatText, IsParser-IsFloatText}

-- the value is the float that the bytes write, the nearest of its format; there is none if they
-- write no float
abbrev pub IsReadAs : {R : Type 0} → ieee.Format → (R → ieee.Float) → List ℕ → Option R → Type 0
IsReadAs format value bytes r = MatchOption r (parse_float format bytes ≡ None) (λ x. parse_float format bytes ≡ Some (value x))

-- the float that the text ahead writes; if its bytes write none, the parser backtracks, from where
-- it began
abbrev pub IsFloat : {R S T : Type 0} → ieee.Format → (R → ieee.Float) → (S → List ℕ)
    → (S → Source T → ℕ → Type 0) → (T → ℕ) → Meaning R T
IsFloat format value bytes is_slice code =
    VerifyMaps (λ slice. IsReadAs format value (bytes slice)) (Taken is_slice (IsFloatText is_slice code))

-- slices of which a view shows the same have the same bytes
abbrev pub HaveBytes : {S V : Type 0} → (S → V) → (S → List ℕ) → Type 0
HaveBytes {S} view bytes = (s t : S) → view s ≡ view t → bytes s ≡ bytes t

-- `IsFloat` keeps the laws of a parser
pub IsParser-IsFloat : {R S T : Type 0} (format : ieee.Format) (value : R → ieee.Float)
    (bytes : S → List ℕ) (is_slice : S → Source T → ℕ → Type 0) (stay : SlicesStay is_slice)
    (code : T → ℕ) → IsParser (IsFloat format value bytes is_slice code)
IsParser-IsFloat format value bytes is_slice stay code =
    IsParser-VerifyMaps (λ slice. IsReadAs format value (bytes slice)) _ (IsParser-Taken is_slice stay _ (IsParser-IsFloatText is_slice stay code))
