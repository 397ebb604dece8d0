use Rattle.std.proofs.Common.{[], refl}
use Rattle.winnow_parser.specs.Answer.{ahead}
use Rattle.winnow_codec.proofs.lemmas.Lists.{takes-none}
use Rattle.winnow_codec.proofs.nothing.UnitFormat.read.Goals as goal

pub returns-clause-means : goal.returns-clause-means
returns-clause-means g c = ([], (refl, takes-none (ahead g.I.Rest.location g.I.Stream.remaining c.args._input.now)))
