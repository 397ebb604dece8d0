use Rattle.std.proofs.Common.{string_bytes, refl, sym, arith}
use Rattle.winnow_script_feed.specs.Inputs.{text_input}
use Rattle.winnow_script_feed.proofs.lemmas.InputLemmas.{texts-input}
use Rattle.winnow_script_lines.proofs.lemmas.FedPieceLemmas.{bytes_fed-le}
use Rattle.winnow_script_lines.proofs.lemmas.ReportLemmas.{printed-none, printed-line, printed-all}
use Rattle.winnow_script_lines.proofs.runs.feed_text_lines.Goals as goal

pub loop-line-init : goal.loop-line-init
loop-line-init c =
    rw (c.requires.answers, c.requires.pieces) (printed-none text_input c.args.steps.now string_bytes c.args.lines.now c.in_ok-feed.feed _ c.in_ok-feed.ensures.fits c.in_ok-feed.ensures.script c.requires.text)

pub take_text_line-requires : goal.take_text_line-requires
take_text_line-requires c =
    let before = c.loop-line.invariant in
    let within = bytes_fed-le string_bytes c.args.lines.now c.loop-line.line-index c.line-item.result c.loop-line-test.true before.pieces before.length_is text_input texts-input c.loop-line.feed before.fits in
    omega (arith, c.requires.short, rw (sym c.line-item.is) at within)

pub loop-line-preserved : goal.loop-line-preserved
loop-line-preserved c =
    let line = c.line-item.result in
    printed-line text_input c.args.steps.now string_bytes c.args.lines.now c.loop-line.line-index line line c.loop-line-test.true (sym c.line-item.is) line c.loop-line.feed c.take_text_line.new.feed c.loop-line.report c.take_text_line.new.report c.loop-line.invariant refl c.in_ok-take_text_line.ensures

pub returns : goal.returns
returns c =
    let report = c.loop-line.report in
    let ends = c.in_ok-end_text_feed.ensures in
    rw ends.text (printed-all text_input c.args.steps.now string_bytes c.args.lines.now c.loop-line.line-index c.loop-line.feed report.answers report.pieces (string_bytes report.text) ends.finished c.loop-line.invariant c.loop-line-test.false ends.ends)
