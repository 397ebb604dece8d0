use Rattle.std.proofs.Common.{◌≡◌, ◌+◌, take}
use Rattle.std.specs.List.{sum_by}
use Rattle.csv.specs.Records.{fields_of}
use Rattle.wb_base.specs.Positions.{line_feeds}
use Rattle.wb_csv.proofs.progress.line_feeds_of.Given as goal

-- the fields so far are counted
abbrev pub invariant-loop-place : goal.invariant-loop-place
invariant-loop-place l = l.count ≡ 1 + sum_by line_feeds (take l.place (fields_of l.row))
