-- What a scan of a record with a limit keeps.
use Rattle.std.specs.Prelude.{◌≡◌, ℕ, ◌≤◌, List, length}
use Rattle.winnow_reader_limit.specs.declared.scanning.LimitedState.{LimitedState}

-- the scan of the record is in a state of these bytes, which are counted, and no more than the
-- record may have
abbrev pub ScansWithin : {S : Type 0} → ℕ → (List ℕ → S → Type 0) → List ℕ → LimitedState S → Type 0
ScansWithin greatest scanned bytes state =
    scanned bytes state.inner × (state.seen ≡ length bytes) × (length bytes ≤ greatest)
