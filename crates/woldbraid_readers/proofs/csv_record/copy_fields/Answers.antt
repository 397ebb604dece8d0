use Rattle.std.proofs.Common.{◌<◌, sym, length, arith}
use Rattle.csv.specs.Records.{fields_of}
use Rattle.csv.proofs.RecordFacts.{field-get, field-there}
use Rattle.woldbraid_readers.specs.Records.{joined, ends_from}
use Rattle.woldbraid_readers.proofs.lemmas.RecordLemmas.{fills-more}
use Rattle.woldbraid_readers.proofs.csv_record.copy_fields.Goals as goal
use Rattle.woldbraid_readers.proofs.csv_record.copy_fields.Goals.{in-Some+in_ok-append_field, in_default}

pub fields-init : goal.fields-init
unfolding joined ends_from
fields-init c = (c.clear.ensures.items, c.clear-2.ensures.items)

pub fields-preserved : goal.fields-preserved
fields-preserved c =
    let size = c.len-i-end.ensures in
    let test = c.fields-test.true in
    let lt : c.fields.i < length (fields_of c.args.row.now) = omega (arith, size, test) in
    elim c.match-get.branch [
      | in-Some+in_ok-append_field w ↦
          let inv = c.fields.invariant in
          let e = w.in_ok-append_field.ensures in
          let has = rw w.in-Some.is at c.get.ensures.value in
          let same = field-get _ _ _ (sym has) in
          rw (w.text-is, w.ends-is, e.text, e.ends) (fills-more (fields_of c.args.row.now) c.fields.i _ lt same _ _ inv.0 inv.1)
      | in_default w ↦
          let none = rw w.in_default.is at c.get.ensures.value in
          absurd (field-there _ _ lt (sym none))
    ]
