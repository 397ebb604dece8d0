use Rattle.std.proofs.Common.{◌≡◌, ◌++◌, take, map}
use Rattle.csv.specs.Records.{fields_of}
use Rattle.wb_csv.specs.Lines.{field_of, joined, pick}
use Rattle.wb_csv.proofs.lines.append_some.Given as goal

-- the fields so far are appended
abbrev pub invariant-loop-index : goal.invariant-loop-index
invariant-loop-index l =
    l.text.items ≡ l.fn.text.items ++ joined (take l.index (map (λ k. field_of l.settings (pick (fields_of l.row) k)) l.columns))
