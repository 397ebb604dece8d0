use Rattle.winnow_error_parse.proofs.lemmas.PositionLemmas.{line_start-after, line_start-none}
use Rattle.winnow_error_parse.proofs.position.line_start.Goals as goal

pub returns-in-Some-clause-start : goal.returns-in-Some-clause-start
returns-in-Some-clause-start c = line_start-after c.args.before.now c.in-Some.newline c.in-Some.ensures.0 c.in-Some.ensures.1

pub returns-in-None-clause-start : goal.returns-in-None-clause-start
returns-in-None-clause-start c = line_start-none c.args.before.now c.in-None.ensures
