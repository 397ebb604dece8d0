use Rattle.winnow_reader.specs.TextFrontLaws.{text_in-damaged}
use Rattle.winnow_reader.proofs.lemmas.MendLemmas.{CanGoOn-undamaged}
use Rattle.winnow_reader.proofs.laws.damage_law.Goals as goal

pub returns-clause-mends : goal.returns-clause-mends
returns-clause-mends c = λ bytes whole. CanGoOn-undamaged bytes whole

pub returns-clause-stays : goal.returns-clause-stays
returns-clause-stays c = λ bytes more damage. text_in-damaged bytes more damage
