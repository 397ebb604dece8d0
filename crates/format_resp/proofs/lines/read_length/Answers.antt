use Rattle.format_resp.proofs.lines.read_length.Goals as goal

pub returns-in-Ok-clause-means : goal.returns-in-Ok-clause-means
returns-in-Ok-clause-means g c = rw (c.cut_err.ensures, c.verify_map-length.ensures.inner, c.verify_map-length.ensures.f, c.line.ensures.0, c.line.ensures.1.0, c.line.ensures.1.1, c.line.ensures.2, c.line.ensures.3) at c.in-Ok.ensures.means

pub returns-in-Err-clause-means : goal.returns-in-Err-clause-means
returns-in-Err-clause-means g c = rw (c.cut_err.ensures, c.verify_map-length.ensures.inner, c.verify_map-length.ensures.f, c.line.ensures.0, c.line.ensures.1.0, c.line.ensures.1.1, c.line.ensures.2, c.line.ensures.3) at c.in-Err.ensures.means
