use Rattle.std.proofs.Common.{map}
use Rattle.winnow_tree.specs.TreeContents.{tree_contents, trees_of}
use Rattle.winnow_tree.specs.Maps.{OnOkOf, TreesMap}
use Rattle.winnow_tree.proofs.mapping.+map_tree.Given as goal

abbrev pub invariant-loop-entry : goal.invariant-loop-entry
invariant-loop-entry g l = TreesMap (OnOkOf (goal.O-post g l.op)) (trees_of (map tree_contents l.yielded)) (trees_of (map tree_contents l.mapped.items))
