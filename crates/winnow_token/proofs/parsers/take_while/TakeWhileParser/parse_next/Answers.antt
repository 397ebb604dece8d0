use Rattle.std.proofs.Common.{rules}
use Rattle.winnow_token.proofs.parsers.take_while.TakeWhileParser.parse_next.Goals as goal

pub returns-clause-means : goal.returns-clause-means
returns-clause-means g c = c.take_front.ensures.means (g.C.FixedSet.holds c.args.self.now.set) (λ token answer p. search rules)
