use Rattle.winnow_combinator.proofs.parsers.alt_to_ten.AltTuple9Parser.parse_next.Goals as goal

pub returns-clause-means : goal.returns-clause-means
returns-clause-means g c = c.parse_next.ensures.means

pub returns-clause-error : goal.returns-clause-error
returns-clause-error g c = c.parse_next.ensures.error
