use Rattle.wb_json.proofs.lemmas.InputLemmas.{no-both, prints-part, fails-part-of}
use Rattle.wb_json.proofs.lemmas.ResultLemmas.{on-three, if-err}
use Rattle.wb_json.proofs.lemmas.LiningLemmas.{ready-begun, ready-more}
use Rattle.wb_json.proofs.printing.Printing.print_more.Goals as goal

pub print_part-requires : goal.print_part-requires
print_part-requires g c = ready-begun c.args.self.now c.requires.ready

pub returns-clause-ready : goal.returns-clause-ready
returns-clause-ready g c =
    let contents = g.W.Write.contents in
    let old = c.args.self.now in
    let new = c.print_part.new.self in
    let held = contents c.args.output.now in
    let now = contents c.print_part.new.output in
    on-three c.print_part.result
    (λ same begun follows. ready-more old new c.args.part.now held now c.requires.ready
    (prints-part old new c.args.part.now held now same begun c.requires.line (λ e. absurd (no-both old.settings.by_lines e c.if-self.false)) follows))
    c.print_part.ensures.settings c.print_part.ensures.begun c.print_part.ensures.follows

pub returns-clause-prints : goal.returns-clause-prints
returns-clause-prints g c =
    let contents = g.W.Write.contents in
    let old = c.args.self.now in
    let new = c.print_part.new.self in
    on-three c.print_part.result
    (λ same begun follows. prints-part old new c.args.part.now (contents c.args.output.now) (contents c.print_part.new.output) same begun c.requires.line
    (λ e. absurd (no-both old.settings.by_lines e c.if-self.false)) follows)
    c.print_part.ensures.settings c.print_part.ensures.begun c.print_part.ensures.follows

pub returns-clause-failed : goal.returns-clause-failed
returns-clause-failed g c =
    let contents = g.W.Write.contents in
    if-err c.print_part.result
    (λ failure fails. fails-part-of c.args.self.now c.args.part.now failure (contents c.args.output.now) (contents c.print_part.new.output) c.requires.line fails)
    c.print_part.ensures.failed
