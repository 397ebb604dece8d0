use Rattle.winnow_parser.specs.Determined.{Shows}
use Rattle.winnow_parser.proofs.lemmas.MadeLemmas.{determined-taken, determined-with_taken}
use Rattle.winnow_parser.proofs.laws.determined_slice_law.Goals as goal

pub returns-clause-taken : goal.returns-clause-taken
returns-clause-taken g c = λ view bytes a fronts d. determined-taken g.I.Stream.is_slice (Shows bytes) fronts (g.A.Parser.means a) (Shows view) d

pub returns-clause-with_taken : goal.returns-clause-with_taken
returns-clause-with_taken g c = λ view bytes a fronts d. determined-with_taken g.I.Stream.is_slice (Shows bytes) fronts (g.A.Parser.means a) (Shows view) d
