use Rattle.std.proofs.Common.{◌≡◌, ◌∷◌, ◌++◌, take}
use Rattle.format_csv.specs.Writing.{values_in}
use Rattle.example_csv.specs.Lines.{tabbed}
use Rattle.example_csv.proofs.lines.append_fields.Given as goal

-- the fields so far are appended
abbrev pub invariant-loop-field : goal.invariant-loop-field
invariant-loop-field l =
    l.line.items ≡ l.fn.line.items ++ tabbed (l.first ∷ values_in (take l.field-index l.others))
