-- What a function makes of the values, said in the words of a contract.
use Rattle.std.proofs.Common.{Bool}
use Rattle.winnow_parser.specs.Outcome.{Ahead, Outcome, Gives, Fails, Meaning}
use Rattle.winnow_parser.specs.Meanings.{Maps}

-- a parser of values that one relation makes is a parser of those that a wider relation makes
pub Maps-on : {O P T : Type 0} (gives makes : O → P → Type 0) (inner : Meaning O T)
    → ((x : O) (y : P) → gives x y → makes x y) → (partial : Bool) (a : Ahead T) (v : Outcome P T)
    → Maps gives inner partial a v → Maps makes inner partial a v
Maps-on gives makes inner on partial a (Gives y b) h = (h.0, (on h.0 y h.1.0, h.1.1))
Maps-on gives makes inner on partial a (Fails f) h = h
