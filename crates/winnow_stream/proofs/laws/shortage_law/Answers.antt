use Rattle.winnow_stream.proofs.lemmas.CountedShortageLemmas.{refused-more, answered-more}
use Rattle.winnow_stream.proofs.laws.shortage_law.Goals as goal

pub returns-clause-refused : goal.returns-clause-refused
returns-clause-refused g c = refused-more

pub returns-clause-answered : goal.returns-clause-answered
returns-clause-answered g c = answered-more
