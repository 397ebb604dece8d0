use Rattle.std.proofs.Common.{[], arith}
use Rattle.winnow_script_attempt.proofs.lemmas.FittingLemmas.{hit-long}
use Rattle.winnow_script_attempt.proofs.searches.fitting_one.Goals as goal

pub returns-then-len-a : goal.returns-then-len-a
returns-then-len-a c = λ bytes l. hit-long c.args.a.now [] [] bytes (omega (arith, l, c.if-len-a.true))
