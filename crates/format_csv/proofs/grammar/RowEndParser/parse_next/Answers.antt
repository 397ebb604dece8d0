use Rattle.format_csv.proofs.grammar.RowEndParser.parse_next.Goals as goal

pub returns-in-Ok-clause-means : goal.returns-in-Ok-clause-means
returns-in-Ok-clause-means g c =
    rw (c.alt.ensures, c.void-newline.ensures.inner, c.void-both.ensures.inner, c.one_of.ensures, c.one_of-2.ensures, c.one_of-3.ensures) at c.in-Ok.ensures.means

pub returns-in-Err-clause-means : goal.returns-in-Err-clause-means
returns-in-Err-clause-means g c =
    rw (c.alt.ensures, c.void-newline.ensures.inner, c.void-both.ensures.inner, c.one_of.ensures, c.one_of-2.ensures, c.one_of-3.ensures) at c.in-Err.ensures.means
