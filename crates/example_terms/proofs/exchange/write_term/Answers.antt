use Rattle.example_terms.proofs.exchange.write_term.Goals as goal

pub returns : goal.returns
returns c = rw c.terms.ensures at c.write.ensures
