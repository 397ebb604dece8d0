use Rattle.std.proofs.Common.{inr}
use Rattle.winnow_reader.specs.TextPlace.{stands_text}
use Rattle.law_parsers.proofs.text_lines.TextLineTextRecord.read.Goals as goal

pub returns-in-Err-from_str-clause-means : goal.returns-in-Err-from_str-clause-means
returns-in-Err-from_str-clause-means c = inr (tt, (c.in-Ok.word, (stands_text c.parse_next.new.input, c.in-Ok.ensures.means)))
