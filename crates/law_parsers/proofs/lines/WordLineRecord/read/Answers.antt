use Rattle.std.proofs.Common.{inr}
use Rattle.winnow_reader.specs.Place.{stands}
use Rattle.law_parsers.proofs.lines.WordLineRecord.read.Goals as goal

pub returns-in-Err-to_vec-clause-means : goal.returns-in-Err-to_vec-clause-means
returns-in-Err-to_vec-clause-means c = inr (tt, (c.in-Ok.letters, (stands c.parse_next.new.input, c.in-Ok.ensures.means)))
