use Rattle.wb_json.proofs.lemmas.LiningLemmas.{ready-begun, tells-line, tells-blank}
use Rattle.wb_json.proofs.printing.Printing.print_last_line.Goals as goal

pub print_rest-requires : goal.print_rest-requires
print_rest-requires g c = ready-begun c.args.self.now c.requires.ready

pub returns-then-self : goal.returns-then-self
returns-then-self g c = λ input had h.
    let contents = g.W.Write.contents in
    tells-line c.args.self.now c.print_rest.new.self (contents c.args.output.now) (contents c.print_rest.new.output) had input c.print_rest.result c.requires.lines
    c.print_rest.ensures.ends c.print_rest.ensures.failed h

pub returns : goal.returns
returns g c = λ input had h.
    tells-blank c.args.self.now (g.W.Write.contents c.args.output.now) had input c.requires.lines c.if-self.false h
