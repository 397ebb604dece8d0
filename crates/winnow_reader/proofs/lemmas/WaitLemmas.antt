-- For how long a reader waits.
use Rattle.std.specs.Prelude.{false, Result}
use Rattle.std.proofs.Common.{◌≡◌, ℕ, ◌≤◌, List, ◌++◌, length, ap, ◌∙◌, arith, length-append}
use Rattle.winnow_parser.specs.Outcome.{Meaning}
use Rattle.winnow_reader.specs.declared.next.Next.{Next}
use Rattle.winnow_reader.specs.declared.next.ReadError.{ReadError}
use Rattle.winnow_reader.specs.State.{ReaderState, pushed, waiting_for}
use Rattle.winnow_reader.specs.Answering.{WantsNeeded, StaysTillWanted, WaitsForNeeded}

-- a reader that was asked with all that it wanted, and needed some bytes more, needs more again
-- while fewer were pushed
pub WaitsForNeeded-wanted : {R O E : Type 0} (means : R → Meaning O ℕ)
    (old new later : ReaderState R) (piece : List ℕ) (next : Result (Next O) (ReadError E))
    → old.ended ≡ false → old.wanted ≤ length old.ahead
    → WantsNeeded means old new → new ≡ waiting_for old new.wanted
    → StaysTillWanted (pushed new piece) next later → WaitsForNeeded means old piece next
WaitsForNeeded-wanted means old new later piece next open-still asked wants kept early =
    let wanted = wants asked in
    let ahead : length (new.ahead ++ piece) ≡ length (old.ahead ++ piece) = ap (λ r. length (r.ahead ++ piece)) kept in (
      wanted.0,
      (
        wanted.1.0,
        λ fewer fits. (early (ap (λ r. r.ended) kept ∙ open-still) (omega (arith, ahead, length-append old.ahead piece, fewer, fits, wanted.1.1))).0,
      ),
    )
