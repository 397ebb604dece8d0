use Rattle.std.specs.Prelude.{IsPermutation}
use Rattle.std.specs.List.{flat_map}
use Rattle.std.proofs.lemmas.Result.{IfOk-weaker}
use Rattle.winnow_error.specs.Mode.{ModeOr, IsBacktrackOf}
use Rattle.winnow_error.specs.Pick.{Bracketed, leaves, backtracked}
use Rattle.winnow_tree.specs.Entries.{TreeOr, entries}
use Rattle.winnow_tree.proofs.lemmas.EntryLemmas.{entries-bracketed}
use Rattle.winnow_tree.proofs.combining.combine_trees.Goals as goal

pub returns-clause-entries : goal.returns-clause-entries
returns-clause-entries g c = λ all.
    IfOk-weaker c.combine.result (Bracketed (ModeOr TreeOr) c.args.tree) (IsBacktrackOf (λ e. IsPermutation (entries e) (flat_map entries (backtracked (leaves c.args.tree))))) (λ r w. entries-bracketed c.args.tree r all w) c.combine.ensures.bracketed
