use Rattle.winnow_float.proofs.parts.DigitsParser.parse_next.Goals as goal

pub returns-clause-means : goal.returns-clause-means
returns-clause-means g c =
    rw (c.take_while.ensures.set, c.take_while.ensures.counts.0, c.take_while.ensures.counts.1, c.new.ensures.start, c.new.ensures.end) at c.parse_next.ensures.means
