use Rattle.winnow_parser.specs.Determined.{Shows}
use Rattle.winnow_binary.proofs.lemmas.LengthLemmas.{determined-length_take, determined-length_repeat}
use Rattle.winnow_binary.proofs.laws.determined_length_law.Goals as goal

pub returns-clause-slice : goal.returns-clause-slice
returns-clause-slice g c = λ bytes p fronts d.
    determined-length_take g.P.Output.Length.number g.I.Stream.counts_shortage g.I.Stream.is_slice (Shows bytes) fronts (g.P.Parser.means p) d

pub returns-clause-values : goal.returns-clause-values
returns-clause-values g c = λ view whole p q respects d e.
    determined-length_repeat g.P.Output.Length.number g.A.Accumulate.refusable g.E.ParserError.append_refusable (λ values a. g.A.Accumulate.holds a values) (Shows view) (Shows whole) respects (g.P.Parser.means p) (g.Q.Parser.means q) d e
