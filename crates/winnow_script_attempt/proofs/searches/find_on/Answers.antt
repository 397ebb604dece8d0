use Rattle.std.proofs.Common.{sym, ◌∙◌, arith}
use Rattle.winnow_script_attempt.proofs.lemmas.FittingLemmas.{hit-none}
use Rattle.winnow_script_attempt.proofs.searches.find_on.Goals as goal

pub returns-in-None : goal.returns-in-None
returns-in-None c = sym (c.in-None.ensures c.args.bytes.now (omega arith) ∙ hit-none c.args.bytes.now)
