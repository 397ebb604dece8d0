-- What a scan says of the bytes of a record.
use Rattle.std.specs.Prelude.{ℕ, Bool, true, false, List, ◌⊎◌, ⊤}
use Rattle.winnow_stream.specs.declared.needed.Needed.{Needed}
use Rattle.winnow_parser.specs.Outcome.{Ahead, Outcome, Fails, Needs, Meaning}
use Rattle.winnow_parser.specs.Laws.{IsSettled}
use Rattle.winnow_reader.specs.Place.{bytes_at}

-- if more may follow, the parser has neither a value nor a failure there
abbrev pub IsOpen : {O : Type 0} → Meaning O ℕ → Ahead ℕ → Type 0
IsOpen {O} means a = (v : Outcome O ℕ) → IsSettled v → ¬ (means true a v)

-- if more may follow, the parser needs more there, or has neither a value nor a failure
abbrev pub Awaits : {O : Type 0} → Meaning O ℕ → Ahead ℕ → Type 0
Awaits means a = ((need : Needed) × means true a (Fails (Needs need))) ⊎ IsOpen means a

-- so it does of these bytes, at any place
abbrev pub AwaitsMore : {O : Type 0} → Meaning O ℕ → List ℕ → Type 0
AwaitsMore means bytes = (place : ℕ) → Awaits means (bytes_at place bytes)

-- a scan of these bytes goes on: its state is one of theirs, and the parser awaits more. Or the
-- parser may be asked, of which nothing is said
abbrev pub GoesOn : {O S : Type 0} → Meaning O ℕ → (List ℕ → S → Type 0) → List ℕ → Bool → S
    → Type 0
GoesOn means scanned bytes false state = scanned bytes state × AwaitsMore means bytes
GoesOn means scanned bytes true state = ⊤
