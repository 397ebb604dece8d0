use Rattle.std.proofs.Common.{inr}
use Rattle.winnow.specs.Place.{stands}
use Rattle.example_lines.proofs.lines.LineRecord.read.Goals as goal

pub returns-in-Err-to_vec-clause-means : goal.returns-in-Err-to_vec-clause-means
returns-in-Err-to_vec-clause-means c = inr (tt, (c.in-Ok.line, (stands c.next_line.new.input, c.in-Ok.ensures)))
