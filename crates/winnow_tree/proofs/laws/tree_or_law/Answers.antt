use Rattle.winnow_tree.proofs.lemmas.EntryLemmas.{alternatives-or, entries-or, entries-folds}
use Rattle.winnow_tree.proofs.laws.tree_or_law.Goals as goal

pub returns : goal.returns
returns g c = record {
  alternatives = λ a b r w. alternatives-or a b r w;
  entries = λ a b r w. entries-or a b r w;
  order = λ a r bs nones folds. entries-folds bs a r nones folds;
}
