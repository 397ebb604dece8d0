use Rattle.example_terms.proofs.exchange.read_term.Goals as goal

pub returns : goal.returns
returns g c = rw c.terms.ensures at c.read.ensures.means
