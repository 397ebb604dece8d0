use Rattle.std.proofs.Common.{◌≡◌, ◌∷◌, ◌++◌, take}
use Rattle.format_csv.specs.Writing.{values_in, written_record}
use Rattle.format_csv.proofs.writing.append_fields.Given as goal

-- the fields so far are appended
abbrev pub invariant-loop-field : goal.invariant-loop-field
invariant-loop-field l =
    l.bytes.items ≡ l.fn.bytes.items ++ written_record (l.first ∷ values_in (take l.field-index l.others))
