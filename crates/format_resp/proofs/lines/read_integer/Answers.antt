use Rattle.format_resp.proofs.lines.read_integer.Goals as goal

pub returns-clause-means : goal.returns-clause-means
returns-clause-means g c = rw (c.cut_err.ensures, c.verify_map-number.ensures.inner, c.line.ensures.0, c.line.ensures.1.0, c.line.ensures.1.1, c.line.ensures.2, c.line.ensures.3) at c.parse_next.ensures.means
