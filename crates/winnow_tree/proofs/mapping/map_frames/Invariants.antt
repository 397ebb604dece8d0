use Rattle.std.proofs.Common.{map}
use Rattle.std.specs.List.{AllZip}
use Rattle.winnow_tree.specs.TreeContents.{frame_contents}
use Rattle.winnow_tree.specs.Maps.{OnOkOf, FrameMaps}
use Rattle.winnow_tree.proofs.mapping.map_frames.Given as goal

abbrev pub invariant-loop-frame : goal.invariant-loop-frame
invariant-loop-frame g l = AllZip (FrameMaps (OnOkOf (goal.O-post g l.op))) (map frame_contents l.yielded) (map frame_contents l.mapped.items)
