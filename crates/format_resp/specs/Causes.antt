-- What the cause is for which a reply breaks off.
use Rattle.std.specs.Prelude.{◌≡◌, ℕ, false, List, ◌++◌, codes}
use Rattle.winnow_stream.specs.Source.{Source}
use Rattle.format_lemmas.specs.Bytes.{bytes_of}
use Rattle.format_resp.specs.Damage.{StopsAt, BreaksOff}
use Rattle.format_resp.specs.declared.causes.Cause.{Cause}
use Rattle.format_resp.specs.declared.causes.Cause.TheVariants.{EndsInside, NoKind, TooDeep, NoInteger, NoLength, TooLong, NoLineEnd}

-- no reply within the limits begins here, or one breaks off at the rest, for this cause
abbrev pub IsDamaged : ℕ → ℕ → Cause → Source ℕ → Source ℕ → Type 0
IsDamaged longest depth cause whole rest = StopsAt cause (BreaksOff false cause longest depth) whole rest

-- no matter the limits, this is the cause if a reply has the bytes before and breaks off at the
-- rest
abbrev pub IsCauseOf : Cause → List ℕ → List ℕ → Type 0
IsCauseOf told before rest = (longest depth : ℕ) (whole after : Source ℕ) (cause : Cause)
    → bytes_of whole ≡ before ++ rest → bytes_of after ≡ rest
    → IsDamaged longest depth cause whole after → told ≡ cause

-- ---- Texts

-- the text of a cause
abbrev pub damage_text : Cause → List ℕ
damage_text EndsInside = codes "the input ends before the reply does"
damage_text NoKind = codes "no reply begins with this byte"
damage_text TooDeep = codes "too many arrays inside one another"
damage_text NoInteger = codes "a text that is no integer"
damage_text NoLength = codes "a text that is no length"
damage_text TooLong = codes "a length above the limit"
damage_text NoLineEnd = codes "no CR LF where a line or a bulk string must end"
