use Rattle.std.proofs.Common.{take, string_bytes}
use Rattle.std.specs.Fmt.{AppendsText}
use Rattle.winnow_tree.specs.TreeText.{frames_text}
use Rattle.winnow_tree.proofs.text.write_frames.Given as goal

abbrev pub invariant-loop-level : goal.invariant-loop-level
invariant-loop-level g l = AppendsText (string_bytes l.initial.out) (string_bytes l.out) (frames_text g.I.Display.output g.C.Display.output l.indent 0 (take l.level l.frames))
