use Rattle.winnow_error_parse.proofs.lemmas.NthLineLemmas.{before_first-at, before_first-all}
use Rattle.winnow_error_parse.proofs.line.first_line.Goals as goal

pub returns-in-Some : goal.returns-in-Some
returns-in-Some c = before_first-at c.args.bytes.now c.in-Some.end c.in-Some.ensures.0 c.in-Some.ensures.1

pub returns-in-None : goal.returns-in-None
returns-in-None c = before_first-all c.args.bytes.now c.in-None.ensures
