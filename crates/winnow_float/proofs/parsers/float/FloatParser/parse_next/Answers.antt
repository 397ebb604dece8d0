use Rattle.winnow_float.proofs.parsers.float.FloatParser.parse_next.Goals as goal

pub returns-clause-means : goal.returns-clause-means
returns-clause-means g c = rw (c.verify_map.ensures.inner, c.take.ensures.inner) at c.parse_next.ensures.means
