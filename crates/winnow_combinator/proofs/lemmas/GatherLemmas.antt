-- Gathering values, by other relations and in failures.
use Rattle.std.specs.Prelude.{Bool}
use Rattle.winnow_parser.specs.Outcome.{Ahead, Failed, Backtracks, Cuts, Needs, Refuses, Outcome, Gives, Fails, Meaning}
use Rattle.std.proofs.Common.{inr}
use Rattle.winnow_combinator.specs.Gathering.{Gathered}

-- a weaker relation of what is made keeps the meaning of `Gathered`
pub Gathered-as : {O A T : Type 0} (refusable : Type 0) (one other : O → A
    → Type 0) (inner : Meaning O T) (partial : Bool) (a : Ahead T) (v : Outcome A T)
    → ((x : O) (y : A) → one x y → other x y) → Gathered refusable one inner partial a v
    → Gathered refusable other inner partial a v
Gathered-as refusable one other inner partial a (Gives y b) make h = (h.0, (make h.0 y h.1.0, h.1.1))
Gathered-as refusable one other inner partial a (Fails (Backtracks b)) make h = h
Gathered-as refusable one other inner partial a (Fails (Cuts b)) make h = h
Gathered-as refusable one other inner partial a (Fails (Needs n)) make h = h
Gathered-as refusable one other inner partial a (Fails Refuses) make h = h

-- a failure of the parser is one of `Gathered`
pub Gathered-fails : {O A T : Type 0} (refusable : Type 0) (makes : O → A
    → Type 0) (inner : Meaning O T) (partial : Bool) (a : Ahead T) (f : Failed T)
    → inner partial a (Fails f) → Gathered refusable makes inner partial a (Fails f)
Gathered-fails refusable makes inner partial a (Backtracks b) h = h
Gathered-fails refusable makes inner partial a (Cuts b) h = h
Gathered-fails refusable makes inner partial a (Needs n) h = h
Gathered-fails refusable makes inner partial a Refuses h = inr h
