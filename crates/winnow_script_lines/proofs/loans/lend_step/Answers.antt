use Rattle.std.proofs.Common.{refl}
use Rattle.winnow_script_lines.proofs.loans.lend_step.Goals as goal

pub returns-in-Find : goal.returns-in-Find
returns-in-Find g c = rw c.in-Find.is (c.lend_needles.result, c.lend_needles.ensures, refl)
