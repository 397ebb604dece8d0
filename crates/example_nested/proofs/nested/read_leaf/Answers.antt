use Rattle.std.proofs.Common.{rules}
use Rattle.example_nested.specs.declared.tree.Tree.TheViews.{the_lemmas}
use Rattle.example_nested.proofs.nested.read_leaf.Goals as goal

pub returns-clause-means : goal.returns-clause-means
returns-clause-means g c = (tt, (search (rules, the_lemmas), rw c.bracketed.ensures at c.in_ok-parse_next.ensures.means))
