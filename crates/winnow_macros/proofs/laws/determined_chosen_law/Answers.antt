use Rattle.winnow_parser.specs.Determined.{Shows}
use Rattle.winnow_macros.proofs.lemmas.ChosenLemmas.{determined-chosen}
use Rattle.winnow_macros.proofs.laws.determined_chosen_law.Goals as goal

pub returns : goal.returns
returns g c view p first other = determined-chosen (Shows view) first other p
