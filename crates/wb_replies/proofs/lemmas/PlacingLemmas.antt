-- While the scan of a reply goes on, the parser of a reply with its place awaits more too.
use Rattle.std.proofs.Common.{ℕ, Bool, true, false, List, inl, inr}
use Rattle.winnow_parser.specs.Outcome.{Ahead, Gives, Fails, Meaning}
use Rattle.winnow_reader.specs.Place.{bytes_at}
use Rattle.winnow_scan.specs.Scanning.{IsOpen, Awaits, GoesOn}
use Rattle.format_resp.specs.declared.reply.Reply.{Reply}
use Rattle.wb_replies.specs.Placing.{Placing}

module _ (inner : Meaning Reply ℕ) where
  -- where it has neither a value nor a failure, nor has the other
  placing-open : (a : Ahead ℕ) → IsOpen inner a → IsOpen (Placing inner) a
  placing-open a none (Gives y b) settled h = none (Gives h.0.0 b) tt h.1.1.0
  placing-open a none (Fails f) settled h = none (Fails f) settled h

  -- where it awaits more, so does the other
  placing-awaits : (a : Ahead ℕ) → Awaits inner a → Awaits (Placing inner) a
  placing-awaits a (inl needs) = inl needs
  placing-awaits a (inr none) = inr (placing-open a none)

  -- so a scan goes on for both
  pub placing-goes : {S : Type 0} (scanned : List ℕ → S → Type 0) (bytes : List ℕ) (stops : Bool)
      (state : S)
      → GoesOn inner scanned bytes stops state → GoesOn (Placing inner) scanned bytes stops state
  placing-goes scanned bytes true state h = tt
  placing-goes scanned bytes false state h = (h.0, λ place. placing-awaits (bytes_at place bytes) (h.1 place))
