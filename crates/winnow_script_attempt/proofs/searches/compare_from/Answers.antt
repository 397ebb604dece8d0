use Rattle.std.proofs.Common.{sym, ◌∙◌}
use Rattle.winnow_script_attempt.proofs.lemmas.LookLemmas.{same-ok, same-incomplete, same-error}
use Rattle.winnow_script_attempt.proofs.searches.compare_from.Goals as goal

pub returns-in-Ok : goal.returns-in-Ok
returns-in-Ok c = same-ok _ _ _ _ _ c.requires c.behind.ensures c.behind-2.ensures _ (sym c.compare_all.ensures ∙ c.in-Ok.is)

pub returns-in-Incomplete : goal.returns-in-Incomplete
returns-in-Incomplete c = same-incomplete _ _ _ _ _ c.requires c.behind.ensures c.behind-2.ensures (sym c.compare_all.ensures ∙ c.in-Incomplete.is)

pub returns-in-Error : goal.returns-in-Error
returns-in-Error c = same-error _ _ _ _ _ c.requires c.behind.ensures c.behind-2.ensures (sym c.compare_all.ensures ∙ c.in-Error.is)
