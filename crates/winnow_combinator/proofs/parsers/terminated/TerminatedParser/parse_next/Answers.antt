use Rattle.std.proofs.Common.{refl}
use Rattle.winnow_combinator.proofs.parsers.terminated.TerminatedParser.parse_next.Goals as goal

pub returns-in-Ok-clause-means : goal.returns-in-Ok-clause-means
returns-in-Ok-clause-means g c = (c.in-Ok.both, (refl, c.in-Ok.ensures.means))
