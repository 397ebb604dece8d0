use Rattle.std.proofs.Common.{string_bytes}
use Rattle.winnow_script_feed.specs.Inputs.{byte_input}
use Rattle.winnow_script_lines.proofs.lemmas.ReportLemmas.{HasPrinted}
use Rattle.winnow_script_lines.proofs.runs.feed_byte_lines.Given as goal

abbrev pub invariant-loop-line : goal.invariant-loop-line
invariant-loop-line l =
    HasPrinted byte_input l.fn.steps (λ piece. piece.items) l.lines l.line-index l.feed l.report.answers l.report.pieces (string_bytes l.report.text)
