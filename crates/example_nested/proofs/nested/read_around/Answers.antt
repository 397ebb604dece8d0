use Rattle.std.proofs.Common.{rules}
use Rattle.example_nested.specs.declared.tree.Tree.TheViews.{the_lemmas}
use Rattle.example_nested.proofs.nested.read_around.Goals as goal

pub returns-in-Ok-clause-means : goal.returns-in-Ok-clause-means
returns-in-Ok-clause-means g c =
    let vector = c.in-Ok.branches in
    (vector, (search (rules, the_lemmas), rw (c.bracketed.ensures, c.repeat.ensures.counts.0, c.repeat.ensures.counts.1, c.repeat.ensures.inner) at c.in-Ok.ensures.means))

pub returns-clause-means : goal.returns-clause-means
returns-clause-means g c = rw (c.bracketed.ensures, c.repeat.ensures.counts.0, c.repeat.ensures.counts.1, c.repeat.ensures.inner) at c.in-Err.ensures.means
