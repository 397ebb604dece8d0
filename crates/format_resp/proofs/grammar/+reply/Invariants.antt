use Rattle.std.proofs.Common.{◌+◌, ◌*◌}
use Rattle.format_resp.proofs.grammar.+reply.Given as goal

abbrev pub decreases-read_nested : goal.decreases-read_nested
decreases-read_nested g l = 2 * l.depth + 1

abbrev pub decreases-inner : goal.decreases-inner
decreases-inner g l = 2 * l.depth
