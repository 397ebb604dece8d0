use Rattle.std.proofs.Common.{◌≡◌, ◌++◌, string_bytes, take}
use Rattle.winnow_script_lines.specs.ReportLines.{told_lines}
use Rattle.winnow_script_lines.proofs.report.push_all_told.Given as goal

-- the answers so far are printed
abbrev pub invariant-loop-told : goal.invariant-loop-told
invariant-loop-told g l =
    string_bytes l.text ≡ string_bytes l.initial.text ++ told_lines g.T.AsChar.code (take l.told-index l.answers)
