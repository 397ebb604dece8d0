use Rattle.std.proofs.Common.{string_bytes}
use Rattle.winnow_script_feed.specs.Inputs.{text_input}
use Rattle.winnow_script_lines.proofs.lemmas.ReportLemmas.{HasPrinted}
use Rattle.winnow_script_lines.proofs.runs.feed_text_lines.Given as goal

abbrev pub invariant-loop-line : goal.invariant-loop-line
invariant-loop-line l =
    HasPrinted text_input l.fn.steps string_bytes l.lines l.line-index l.feed l.report.answers l.report.pieces (string_bytes l.report.text)
