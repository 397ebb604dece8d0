use Rattle.std.proofs.Common.{◌≡◌, take}
use Rattle.format_csv.specs.Widths.{HaveWidth}
use Rattle.format_csv.proofs.widths.first_uneven.Given as goal

-- each record so far has as many fields as the first
abbrev pub invariant-loop-fields : goal.invariant-loop-fields
invariant-loop-fields l = record {
  counted : l.index ≡ l.fields-index;
  even : HaveWidth l.width (take l.fields-index l.records);
}
