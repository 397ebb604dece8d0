use Rattle.std.proofs.Common.{arith, refl, sym, subst}
use Rattle.std.proofs.lemmas.List.{length-map}
use Rattle.format_csv.specs.Answers.{values_of}
use Rattle.format_csv.specs.Tables.{rows_in, AreRecords}
use Rattle.format_csv.proofs.lemmas.TableLemmas.{records-more, records-within, cut-damaged, damaged-within, rows-push}
use Rattle.format_csv.proofs.reading.read_table.Goals as goal

pub loop-row-preserved : goal.loop-row-preserved
loop-row-preserved c =
    let text = c.args.text.now in
    let rest = c.next_row.new.input.now in
    subst (λ rows. AreRecords text rows rest) (sym (rows-push c.loop-row.table.items c.push.new.self.items c.in-Ok.row c.in_ok-push-in-Ok.ensures.items))
    (records-more text (rows_in c.loop-row.table.items) (values_of c.in-Ok.row) c.loop-row.input.now rest c.loop-row.invariant c.in-Ok.ensures.answer)

pub overflow_sub-offset : goal.overflow_sub-offset
overflow_sub-offset c =
    let begun = c.loop-row.input.now in
    let rest = c.next_row.new.input.now in
    let cut = (rw c.in-Err-Cut.field-0-is at c.in-Err-Cut.ensures.answer).0 in
    omega (arith, records-within c.args.text.now begun (rows_in c.loop-row.table.items) c.loop-row.invariant, damaged-within begun rest (cut-damaged begun rest cut))

pub returns-in-Err-Cut-clause-damaged : goal.returns-in-Err-Cut-clause-damaged
returns-in-Err-Cut-clause-damaged c =
    let begun = c.loop-row.input.now in
    let rest = c.next_row.new.input.now in
    let items = c.loop-row.table.items in
    let cut = (rw c.in-Err-Cut.field-0-is at c.in-Err-Cut.ensures.answer).0 in
    let none = rw c.in-Err-Cut.field-0-is at c.in-Err-Cut.ensures.complete in (
      rows_in items,
      (
        begun,
        (
          rest,
          (
            c.loop-row.invariant,
            omega (arith, length-map items values_of, c.len-rows.ensures, c.loop-row.table.ok.0),
            none,
            cut-damaged begun rest cut,
            refl,
          ),
        ),
      ),
    )
