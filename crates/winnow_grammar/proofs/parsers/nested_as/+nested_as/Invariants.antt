use Rattle.std.proofs.Common.{◌+◌, ◌*◌}
use Rattle.winnow_grammar.proofs.parsers.nested_as.+nested_as.Given as goal

abbrev pub decreases-read_nested_as : goal.decreases-read_nested_as
decreases-read_nested_as g l = 2 * l.depth + 1

abbrev pub decreases-read : goal.decreases-read
decreases-read g l = 2 * l.depth
