use Rattle.std.proofs.Common.{refl}
use Rattle.wb_json.proofs.lemmas.ResultLemmas.{on-ok, if-err}
use Rattle.wb_json.proofs.lemmas.LiningLemmas.{prints-both, fails-first, fails-second}
use Rattle.wb_json.proofs.printing.Printing.print_line.Goals as goal

pub returns-in-Err-clause-failed : goal.returns-in-Err-clause-failed
returns-in-Err-clause-failed g c =
    let contents = g.W.Write.contents in
    fails-first c.args.self.now c.args.line.now _ _ c.in-Err.failure (contents c.args.output.now) (contents c.print_more.new.output) refl c.in-Err.ensures.failed

pub returns-clause-prints : goal.returns-clause-prints
returns-clause-prints g c =
    let contents = g.W.Write.contents in
    on-ok c.end_line.result
    (λ next. prints-both c.args.self.now c.print_more.new.self c.end_line.new.self c.args.line.now _ _ (contents c.args.output.now) (contents c.print_more.new.output) (contents c.end_line.new.output) refl c.in_default.ensures.prints next)
    c.end_line.ensures.prints

pub returns-clause-failed : goal.returns-clause-failed
returns-clause-failed g c =
    let contents = g.W.Write.contents in
    if-err c.end_line.result
    (λ failure fails. fails-second c.args.self.now c.print_more.new.self c.args.line.now _ _ failure (contents c.args.output.now) (contents c.print_more.new.output) (contents c.end_line.new.output) refl c.in_default.ensures.settings c.in_default.ensures.prints fails)
    c.end_line.ensures.failed
