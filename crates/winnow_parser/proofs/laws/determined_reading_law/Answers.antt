use Rattle.std.proofs.Common.{◌≡◌}
use Rattle.winnow_count.specs.Reading.{IsSomeExactly}
use Rattle.winnow_parser.specs.Determined.{Shows}
use Rattle.winnow_parser.proofs.lemmas.ImageLemmas.{determined-verify_map}
use Rattle.winnow_parser.proofs.lemmas.ReadingLemmas.{one-value}
use Rattle.winnow_parser.proofs.laws.determined_reading_law.Goals as goal

pub returns : goal.returns
returns g c = λ view a alike d.
    determined-verify_map (λ slice value. IsSomeExactly (g.A.Output.ParseSlice.reads slice) value) (g.A.Parser.means a) (Shows view) ◌≡◌ (one-value view g.A.Output.ParseSlice.reads alike) d
