-- When a reader with a scan needs more.
use Rattle.std.specs.Prelude.{◌≡◌, ℕ, ◌≤◌, false, List, length, ◌⊎◌}
use Rattle.winnow_parser.specs.Outcome.{Meaning}
use Rattle.winnow_reader.specs.State.{ReaderState, waiting_for}
use Rattle.winnow_reader.specs.Reading.{HasRead, Lacks}
use Rattle.winnow_reader.specs.Answering.{NeedsLength}
use Rattle.winnow_scan.specs.Scanning.{AwaitsMore}

module _ {R O S : Type 0} (means : R → Meaning O ℕ) (scanned : R → List ℕ → S → Type 0) where
  -- the scan goes on after the bytes ahead: it is in one of their states, and the parser awaits
  -- more of them
  abbrev pub ScansOn : ReaderState R → Type 0
  ScansOn f = (state : S) × (scanned f.parser f.ahead state × AwaitsMore (means f.parser) f.ahead)

  -- more is needed only before the end, and if the parser asked for more than came since, or the
  -- scan goes on; only how many bytes are wanted changes. If as many bytes were ahead as were
  -- wanted, as many are wanted now as the parser needs; or the scan goes on, and nothing changes.
  abbrev pub WaitsByScan : ReaderState R → ReaderState R → Type 0
  WaitsByScan old new = (old.ended ≡ false)
      × ((input : List ℕ) (values : List O) → HasRead means old input values → Lacks means old ⊎ ScansOn old)
      × (old.wanted ≤ length old.ahead → NeedsLength (means old.parser) old.place old.ahead new.wanted
      ⊎ (ScansOn old × (new ≡ old)))
      × (new ≡ waiting_for old new.wanted)
