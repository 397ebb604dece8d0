use Rattle.std.proofs.Common.{arith}
use Rattle.winnow_stream.proofs.lemmas.ShortageLemmas.{Size-needed}
use Rattle.winnow_stream.proofs.needed.Needed.new.Goals as goal

pub returns-in-Some : goal.returns-in-Some
returns-in-Some c = Size-needed c.args.size c.in-Some.size (omega (arith, c.in-Some.ensures))
