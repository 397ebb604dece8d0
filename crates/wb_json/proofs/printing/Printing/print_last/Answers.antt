use Rattle.wb_json.proofs.lemmas.LiningLemmas.{ready-begun}
use Rattle.wb_json.proofs.printing.Printing.print_last.Goals as goal
use Rattle.wb_json.proofs.lemmas.InputLemmas.{tells-text}

pub print_rest-requires : goal.print_rest-requires
print_rest-requires g c = ready-begun c.args.self.now c.requires

pub returns : goal.returns
returns g c = λ input had h.
    let contents = g.W.Write.contents in
    tells-text c.args.self.now c.print_rest.new.self (contents c.args.output.now) (contents c.print_rest.new.output) had input c.print_rest.result c.if-self.false
    c.print_rest.ensures.ends c.print_rest.ensures.failed h
