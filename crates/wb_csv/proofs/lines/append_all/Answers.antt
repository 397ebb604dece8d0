use Rattle.std.proofs.Common.{[], arith}
use Rattle.csv.specs.Records.{fields_of}
use Rattle.wb_csv.specs.Lines.{field_of}
use Rattle.wb_csv.proofs.lemmas.LineLemmas.{push-next}
use Rattle.wb_csv.proofs.lines.append_all.Goals as goal

pub loop-place-preserved : goal.loop-place-preserved
loop-place-preserved c =
    push-next (field_of c.args.settings.now) [] (fields_of c.args.row.now) c.loop-place.place c.args.text.now.items c.loop-place.text.items _
    (omega (arith, c.loop-place-test.true, c.len-place-end.ensures, c.loop-place.auto.place-end)) c.loop-place.invariant c.in_ok-append_next.ensures
