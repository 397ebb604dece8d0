-- What combinators pass on.
use Rattle.std.proofs.Common.{Bool, inr}
use Rattle.winnow_parser.specs.Outcome.{Ahead, Outcome, Gives, Fails, Meaning}
use Rattle.winnow_parser.specs.FlatMap.{FlatMaps}

-- `FlatMaps` answers as the parser that is made of the value
pub continued-goes : {O P V T : Type 0} (makes : O → V → Type 0) (means : V
    → Meaning P T) (first : Meaning O T) (partial : Bool) (a b : Ahead T) (x : O) (v : V)
    (answer : Outcome P T) → first partial a (Gives x b) → makes x v → means v partial b answer
    → FlatMaps makes means first partial a answer
continued-goes makes means first partial a b x v (Gives y c) h m g = (x, (b, (v, (h, m, g))))
continued-goes makes means first partial a b x v (Fails f) h m g = inr (x, (b, (v, (h, m, g))))
