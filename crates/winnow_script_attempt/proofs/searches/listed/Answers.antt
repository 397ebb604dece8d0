use Rattle.std.proofs.Common.{sym, ◌∙◌}
use Rattle.winnow_script_attempt.proofs.lemmas.BegunLemmas.{listed-begun}
use Rattle.winnow_script_attempt.proofs.searches.listed.Goals as goal

pub returns-in-Incomplete : goal.returns-in-Incomplete
returns-in-Incomplete c = listed-begun c.args.needle.now c.args.bytes.now c.args.later (sym c.compare_all.ensures ∙ c.in-Incomplete.is)
