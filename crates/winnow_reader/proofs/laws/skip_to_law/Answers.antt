use Rattle.winnow_reader.proofs.lemmas.LiteralLemmas.{FindsNeedle-longer, FindsNeedle-dropped}
use Rattle.winnow_reader.proofs.laws.skip_to_law.Goals as goal

pub returns-clause-stays : goal.returns-clause-stays
returns-clause-stays c = λ ahead literal more first h. FindsNeedle-longer ahead literal more first h

pub returns-clause-later : goal.returns-clause-later
returns-clause-later c = λ ahead literal more n found h k.
    FindsNeedle-dropped ahead literal more n h.1 h.2 found k
