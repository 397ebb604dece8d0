use Rattle.std.proofs.Common.{◌≡◌, take}
use Rattle.example_csv.specs.Positions.{feeds_of}
use Rattle.example_csv.proofs.positions.line_feeds_of.Given as goal

-- the fields so far are counted
abbrev pub invariant-loop-field : goal.invariant-loop-field
invariant-loop-field l = l.count ≡ feeds_of (take l.field-index l.fields)
