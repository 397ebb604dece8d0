use Rattle.winnow_parser.specs.Determined.{Shows}
use Rattle.winnow_reader.proofs.lemmas.TellingLemmas.{IsDamageIfTold-meets}
use Rattle.winnow_reader.proofs.laws.told_damage_law.Goals as goal

pub returns : goal.returns
returns g c = λ view r partial a left failure one meets told.
    IsDamageIfTold-meets (g.R.TextRecord.means r) (Shows view) one partial a left meets failure told
