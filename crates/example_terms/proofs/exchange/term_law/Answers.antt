use Rattle.example_terms.proofs.exchange.term_law.Goals as goal

pub returns-clause-read : goal.returns-clause-read
returns-clause-read c = rw c.terms.ensures at c.round_trip_law.ensures.read

pub returns-clause-written : goal.returns-clause-written
returns-clause-written c = rw c.terms.ensures at c.round_trip_law.ensures.written
