-- What comes after the turn of one of several parsers.
use Rattle.std.specs.Prelude.{◌≡◌, Bool}
use Rattle.std.proofs.Common.{sym, subst}
use Rattle.winnow_parser.specs.Outcome.{Ahead, Outcome, Meaning}

-- what comes after a turn that is known is what comes after the turn
pub after-turn : {O P T : Type 0} (after : O → Meaning P T) (partial : Bool) (here : Ahead T)
    (v : Outcome P T) (turn known : O) → turn ≡ known → after known partial here v
    → after turn partial here v
after-turn after partial here v turn known e h = subst (λ t. after t partial here v) (sym e) h
