use Rattle.std.proofs.Common.{◌+◌, ◌*◌}
use Rattle.winnow_exact.proofs.parsers.nested_by_rule.+nested_by_rule.Given as goal

abbrev pub decreases-read_nested : goal.decreases-read_nested
decreases-read_nested g l = 2 * l.depth + 1

abbrev pub decreases-read : goal.decreases-read
decreases-read g l = 2 * l.depth
