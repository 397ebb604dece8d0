use Rattle.winnow_parser.specs.Answer.{ahead}
use Rattle.winnow_parser.specs.Determined.{Shows}
use Rattle.winnow_binary.specs.Lengths.{CountedFront}
use Rattle.winnow_binary.proofs.lemmas.LengthLemmas.{determined-counted_front}
use Rattle.winnow_binary.proofs.lemmas.LengthAndThenLemmas.{determined-length_and_then}
use Rattle.winnow_binary.proofs.laws.determined_slice_read_law.Goals as goal

pub returns : goal.returns
returns g c = λ view p q d e.
    let stands = ahead g.I.Rest.location g.I.Stream.remaining in
    let fronts = CountedFront g.P.Output.Length.number stands g.I.Stream.counts_shortage (g.P.Parser.means p) in
    determined-length_and_then stands (g.Q.Parser.means q) fronts (Shows view) e
    (determined-counted_front stands g.I.Stream.counts_shortage g.P.Output.Length.number (g.P.Parser.means p) d)
