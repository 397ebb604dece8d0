use Rattle.winnow_script_run.proofs.lemmas.StepLemmas.{stable}
use Rattle.winnow_script_run.proofs.laws.definite_law.Goals as goal

pub returns : goal.returns
returns g c = stable _ _ _
