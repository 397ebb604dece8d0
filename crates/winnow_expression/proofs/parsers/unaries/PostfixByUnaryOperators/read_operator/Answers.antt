use Rattle.std.proofs.Common.{refl, sym, rules, w64, FitsSigned}
use Rattle.std.proofs.lemmas.Int.{to_z-of_z}
use Rattle.winnow_expression.proofs.parsers.unaries.PostfixByUnaryOperators.read_operator.Goals as goal

pub returns-clause-means : goal.returns-clause-means
returns-clause-means g c =
    let power = c.in_ok-power.field-0.0 in
    let in_range : FitsSigned w64 power = search rules in
    (c.in_ok-power.field-0, ((sym (to_z-of_z w64 power in_range), refl), c.in_ok-power.ensures.means))
