use Rattle.std.proofs.Common.{sym, ◌∙◌}
use Rattle.winnow_script_attempt.proofs.lemmas.LookLemmas.{hit-later, hit-never}
use Rattle.winnow_script_attempt.proofs.searches.find_from.Goals as goal

pub returns-in-Some : goal.returns-in-Some
returns-in-Some c = hit-later _ _ _ _ c.requires c.behind.ensures c.in-Some.places (sym c.find_all.ensures.value ∙ c.in-Some.is)

pub returns-in-None : goal.returns-in-None
returns-in-None c = hit-never _ _ _ _ c.requires c.behind.ensures (sym c.find_all.ensures.value ∙ c.in-None.is)
