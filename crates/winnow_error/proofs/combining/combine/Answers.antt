use Rattle.std.proofs.lemmas.Result.{IfOk-weaker}
use Rattle.winnow_error.proofs.lemmas.PickLemmas.{pick-leaves, pick-non_backtrack}
use Rattle.winnow_error.proofs.combining.combine.Goals as goal

pub returns-clause-non_backtrack : goal.returns-clause-non_backtrack
returns-clause-non_backtrack g c = λ join non_backtrack.
    IfOk-weaker _ _ _ (λ r w. pick-non_backtrack g.E.ParserError.or_gives join c.args.tree r non_backtrack w) c.join_tree.ensures.bracketed

pub returns-clause-associative : goal.returns-clause-associative
returns-clause-associative g c = λ join only associative.
    IfOk-weaker _ _ _ (pick-leaves g.E.ParserError.or_gives join only associative c.args.tree) c.join_tree.ensures.bracketed
