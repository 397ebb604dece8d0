-- What `Gathered` passes on.
use Rattle.std.proofs.Common.{Bool, inr}
use Rattle.std.specs.Prelude.{⊤}
use Rattle.winnow_parser.specs.Outcome.{Ahead, Failed, Backtracks, Cuts, Needs, Refuses, Fails, Meaning}
use Rattle.winnow_combinator.specs.Gathering.{Gathered}

-- `Gathered` passes each failure on
pub gathered-fails : {O A T : Type 0} (makes : O → A
    → Type 0) (inner : Meaning O T) (partial : Bool) (a : Ahead T) (f : Failed T)
    → inner partial a (Fails f) → Gathered ⊤ makes inner partial a (Fails f)
gathered-fails makes inner partial a (Backtracks b) h = h
gathered-fails makes inner partial a (Cuts b) h = h
gathered-fails makes inner partial a (Needs n) h = h
gathered-fails makes inner partial a Refuses h = inr h
