use Rattle.winnow_float.proofs.mark.MarkParser.parse_next.Goals as goal

pub returns-clause-means : goal.returns-clause-means
returns-clause-means g c = rw c.one_of.ensures at c.parse_next.ensures.means
