use Rattle.wb_json.proofs.lemmas.ResultLemmas.{on-three}
use Rattle.wb_json.proofs.lemmas.LiningLemmas.{ends-line, fails-line, ready-begun, ready-more}
use Rattle.wb_json.proofs.printing.Printing.end_text.Goals as goal

pub print_rest-requires : goal.print_rest-requires
print_rest-requires g c = ready-begun c.args.self.now c.requires.ready

pub returns-in-Err-clause-failed : goal.returns-in-Err-clause-failed
returns-in-Err-clause-failed g c =
    let contents = g.W.Write.contents in
    fails-line c.args.self.now c.in-Err.failure (contents c.args.output.now) (contents c.print_rest.new.output) c.requires.lines c.in-Err.ensures.failed

pub returns-clause-ready : goal.returns-clause-ready
returns-clause-ready g c =
    let contents = g.W.Write.contents in
    let old = c.args.self.now in
    let new = c.begin_line.new.self in
    let held = contents c.args.output.now in
    let now = contents c.print_rest.new.output in
    on-three c.begin_line.result
    (λ passes reader read. ready-more old new _ held now c.requires.ready
    (ends-line old c.print_rest.new.self new held now c.requires.lines c.in_default.ensures.settings c.in_default.ensures.ends passes reader read))
    c.begin_line.ensures.passes c.begin_line.ensures.reader c.begin_line.ensures.read

pub returns-clause-prints : goal.returns-clause-prints
returns-clause-prints g c =
    let contents = g.W.Write.contents in
    let old = c.args.self.now in
    let new = c.begin_line.new.self in
    on-three c.begin_line.result
    (λ passes reader read. ends-line old c.print_rest.new.self new (contents c.args.output.now) (contents c.print_rest.new.output) c.requires.lines c.in_default.ensures.settings c.in_default.ensures.ends passes reader read)
    c.begin_line.ensures.passes c.begin_line.ensures.reader c.begin_line.ensures.read
