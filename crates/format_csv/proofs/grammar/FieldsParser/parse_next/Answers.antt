use Rattle.format_csv.proofs.grammar.FieldsParser.parse_next.Goals as goal

pub returns-in-Ok-clause-means : goal.returns-in-Ok-clause-means
returns-in-Ok-clause-means g c =
    rw (c.separated.ensures.counts.0, c.separated.ensures.counts.1, c.separated.ensures.separator, c.one_of.ensures) at c.in-Ok.ensures.means

pub returns-in-Err-clause-means : goal.returns-in-Err-clause-means
returns-in-Err-clause-means g c =
    rw (c.separated.ensures.counts.0, c.separated.ensures.counts.1, c.separated.ensures.separator, c.one_of.ensures) at c.in-Err.ensures.means
