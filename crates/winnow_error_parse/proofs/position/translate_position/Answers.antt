use Rattle.std.proofs.Common.{rules}
use Rattle.winnow_error_parse.proofs.lemmas.PositionLemmas.{column_of-empty}
use Rattle.winnow_error_parse.proofs.position.translate_position.Goals as goal

pub returns-then-is_empty-clause-column : goal.returns-then-is_empty-clause-column
returns-then-is_empty-clause-column c = column_of-empty c.args.input.now c.args.index (search rules)
