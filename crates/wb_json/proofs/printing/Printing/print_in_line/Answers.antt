use Rattle.wb_json.proofs.lemmas.InputLemmas.{fails-part-of}
use Rattle.wb_json.proofs.lemmas.ResultLemmas.{on-three, if-err}
use Rattle.wb_json.proofs.lemmas.LiningLemmas.{ready-begun, ready-more, line-part}
use Rattle.wb_json.proofs.printing.Printing.print_in_line.Goals as goal

pub print_part-requires : goal.print_part-requires
print_part-requires g c = ready-begun c.args.self.now c.requires.ready

pub returns-then-self-clause-ready : goal.returns-then-self-clause-ready
returns-then-self-clause-ready g c =
    let contents = g.W.Write.contents in
    let old = c.args.self.now in
    let new = c.print_part.new.self in
    let held = contents c.args.output.now in
    let now = contents c.print_part.new.output in
    on-three c.print_part.result
    (λ same begun follows. ready-more old new c.args.part.now held now c.requires.ready
    (line-part old new c.args.part.now held now same begun c.if-self.true c.requires.line follows))
    c.print_part.ensures.settings c.print_part.ensures.begun c.print_part.ensures.follows

pub returns-then-self-clause-prints : goal.returns-then-self-clause-prints
returns-then-self-clause-prints g c =
    let contents = g.W.Write.contents in
    let old = c.args.self.now in
    let new = c.print_part.new.self in
    on-three c.print_part.result
    (λ same begun follows. line-part old new c.args.part.now (contents c.args.output.now) (contents c.print_part.new.output) same begun c.if-self.true c.requires.line follows)
    c.print_part.ensures.settings c.print_part.ensures.begun c.print_part.ensures.follows

pub returns-then-self-clause-failed : goal.returns-then-self-clause-failed
returns-then-self-clause-failed g c =
    let contents = g.W.Write.contents in
    if-err c.print_part.result
    (λ failure fails. fails-part-of c.args.self.now c.args.part.now failure (contents c.args.output.now) (contents c.print_part.new.output) (λ e. c.requires.line) fails)
    c.print_part.ensures.failed
