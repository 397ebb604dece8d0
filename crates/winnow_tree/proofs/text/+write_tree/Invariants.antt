use Rattle.std.proofs.Common.{take, string_bytes}
use Rattle.std.specs.Fmt.{AppendsText}
use Rattle.winnow_tree.specs.TreeText.{all_texts, tree_text, deeper}
use Rattle.winnow_tree.proofs.text.+write_tree.Given as goal

abbrev pub invariant-loop-entry : goal.invariant-loop-entry
invariant-loop-entry g l = AppendsText (string_bytes l.initial.out) (string_bytes l.out) (all_texts (λ t. tree_text g.I.Display.output g.C.Display.output t (deeper l.indent)) (take l.entry-index l.entry-items))
