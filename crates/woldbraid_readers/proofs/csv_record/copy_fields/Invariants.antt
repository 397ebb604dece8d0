use Rattle.std.proofs.Common.{◌≡◌, take}
use Rattle.csv.specs.Records.{fields_of}
use Rattle.woldbraid_readers.specs.Records.{joined, ends_of}
use Rattle.woldbraid_readers.proofs.csv_record.copy_fields.Given as goal

abbrev pub invariant-fields : goal.invariant-fields
invariant-fields l = (l.text.items ≡ joined (take l.i (fields_of l.row)))
    × (l.ends.items ≡ ends_of (take l.i (fields_of l.row)))
