use Rattle.std.proofs.Common.{◌++◌, ◌∙◌, subst}
use Rattle.wb_json.specs.Printing.{PrintsUntil}
use Rattle.wb_json.specs.declared.settings.Settings.{Settings}
use Rattle.wb_json.proofs.lemmas.ResultLemmas.{on-both, if-err}
use Rattle.wb_json.proofs.lemmas.FlushLemmas.{prints-kept, until-kept, flushed-ok, flushed-err}
use Rattle.wb_json.proofs.printing.PrintingDriven.piece.Goals as goal

pub returns-clause-ready : goal.returns-clause-ready
returns-clause-ready g c =
    flushed-ok _ c.print_piece-answer.result c.flushed.result c.flushed.ensures.answer c.print_piece-answer.ensures.ready

pub returns-clause-follows : goal.returns-clause-follows
returns-clause-follows g c = λ start bytes had both.
    let contents = g.W.Write.contents in
    let answer = c.print_piece-answer in
    flushed-ok _ answer.result c.flushed.result c.flushed.ensures.answer
    (on-both answer.result
    (λ same prints. (same ∙ both.0, prints-kept c.args.self.now answer.new.self c.args.piece.now (contents c.args.output.now) (contents answer.new.output) (contents c.flushed.new.output) c.flushed.ensures.keeps prints bytes had both.1))
    answer.ensures.settings answer.ensures.prints)

pub returns-clause-tells : goal.returns-clause-tells
returns-clause-tells g c = λ start bytes rest had both.
    let contents = g.W.Write.contents in
    let answer = c.print_piece-answer in
    let now = contents c.flushed.new.output in
    let whole = bytes ++ (c.args.piece.now ++ rest) in
    flushed-err answer.result c.flushed.result c.flushed.ensures.answer
    (λ failure never is. absurd (never is))
    (if-err answer.result
    (λ failure fails. subst (λ (s : Settings). PrintsUntil s whole failure had now) both.0
    (until-kept c.args.self.now.settings whole failure had (contents answer.new.output) now c.flushed.ensures.keeps (fails bytes rest had both.1)))
    answer.ensures.failed)
