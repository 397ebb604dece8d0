use Rattle.std.proofs.Common.{◌+◌, ◌*◌}
use Rattle.format_cbor_general.proofs.reading.+general.Given as goal

-- an item inside has one level less

abbrev pub decreases-read_inner : goal.decreases-read_inner
decreases-read_inner l = 3 * l.depth

abbrev pub decreases-read_next : goal.decreases-read_next
decreases-read_next l = 3 * l.depth + 2

abbrev pub decreases-read_items : goal.decreases-read_items
decreases-read_items l = 3 * l.depth + 1

abbrev pub decreases-read_entries : goal.decreases-read_entries
decreases-read_entries l = 3 * l.depth + 1
