use Rattle.winnow_tree.proofs.lemmas.EntryLemmas.{entries-bracketed}
use Rattle.winnow_tree.proofs.laws.tree_bracket_law.Goals as goal

pub returns : goal.returns
returns g c = λ t r all bracketed. entries-bracketed t r all bracketed
