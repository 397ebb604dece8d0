use Rattle.wb_json.proofs.lemmas.ResultLemmas.{on-three}
use Rattle.wb_json.proofs.lemmas.LiningLemmas.{ends-blank, ready-more}
use Rattle.wb_json.proofs.printing.Printing.end_line.Goals as goal

pub returns-clause-ready : goal.returns-clause-ready
returns-clause-ready g c =
    let held = g.W.Write.contents c.args.output.now in
    let old = c.args.self.now in
    let new = c.begin_line.new.self in
    on-three c.begin_line.result
    (λ passes reader read. ready-more old new _ held held c.requires.ready (ends-blank old new held c.requires.lines c.if-self.false passes reader read))
    c.begin_line.ensures.passes c.begin_line.ensures.reader c.begin_line.ensures.read

pub returns-clause-prints : goal.returns-clause-prints
returns-clause-prints g c =
    let held = g.W.Write.contents c.args.output.now in
    let old = c.args.self.now in
    let new = c.begin_line.new.self in
    on-three c.begin_line.result
    (λ passes reader read. ends-blank old new held c.requires.lines c.if-self.false passes reader read)
    c.begin_line.ensures.passes c.begin_line.ensures.reader c.begin_line.ensures.read
