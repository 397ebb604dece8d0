use Rattle.std.proofs.Common.{rules}
use Rattle.std.specs.Prelude.{not}
use Rattle.winnow_token.proofs.parsers.take_till.TakeTillParser.parse_next.Goals as goal

pub returns-clause-means : goal.returns-clause-means
returns-clause-means g c = c.take_front.ensures.means (λ token. not (g.C.FixedSet.holds c.args.self.now.set token)) (λ token answer p. search rules)
