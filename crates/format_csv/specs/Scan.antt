-- The scan of a record: 34 is a quote, 44 a comma, and 13 CR.
use Rattle.std.specs.Prelude.{ℕ, ◌==◌, Bool, cond, List, [], ◌∷◌, Option, Some, None}
use Rattle.format_csv.specs.Fields.{is_plain}
use Rattle.format_csv.specs.declared.scan.RowState.{RowState}
use Rattle.format_csv.specs.declared.scan.RowState.TheVariants.{Start, Plain, Quoted, Closed, Return}

-- after a field a comma begins the next one, and CR the end of the record
abbrev pub after_field : ℕ → Option RowState → Option RowState
after_field byte other = cond (44 == byte) (Some Start) (cond (13 == byte) (Some Return) other)

-- in a field without quotes
abbrev pub in_plain : ℕ → Option RowState
in_plain byte = after_field byte (cond (is_plain byte) (Some Plain) None)

-- where a byte leads; none where the record may end, or breaks off
abbrev pub step : RowState → ℕ → Option RowState
step Start byte = cond (34 == byte) (Some Quoted) (in_plain byte)
step Plain byte = in_plain byte
step Quoted byte = cond (34 == byte) (Some Closed) (Some Quoted)
step Closed byte = cond (34 == byte) (Some Quoted) (after_field byte None)
step Return byte = None

-- where a byte leads, unless the record may have ended before it
abbrev pub step_any : Option RowState → ℕ → Option RowState
step_any None byte = None
step_any (Some state) byte = step state byte

-- where some bytes lead
abbrev pub run : Option RowState → List ℕ → Option RowState
run state [] = state
run state (byte ∷ bytes) = run (step_any state byte) bytes
