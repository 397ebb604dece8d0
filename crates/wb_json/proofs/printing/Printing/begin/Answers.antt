use Rattle.wb_json.proofs.lemmas.FlushLemmas.{prints-start}
use Rattle.wb_json.proofs.printing.Printing.begin.Goals as goal

pub returns-clause-prints : goal.returns-clause-prints
returns-clause-prints g c =
    let contents = g.W.Write.contents in
    prints-start _ (contents c.args.output.now) (contents c.write_opening.new.output) c.new.ensures.state c.new.ensures.read
    c.in_default.ensures.path c.new-2.ensures.window c.new-2.ensures.start c.in_default.ensures.wrote
