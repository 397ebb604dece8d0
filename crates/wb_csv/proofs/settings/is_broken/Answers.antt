use Rattle.wb_csv.proofs.settings.is_broken.Goals as goal

pub returns-in-Ok-clause-no : goal.returns-in-Ok-clause-no
returns-in-Ok-clause-no c = λ e. c.in-Ok.ensures.cases.1

pub returns-in-Err-clause-yes : goal.returns-in-Err-clause-yes
returns-in-Err-clause-yes c = λ e. c.in-Err.ensures.cases.0
