use Rattle.std.proofs.Common.{sym, subst, arith}
use Rattle.std.specs.Prelude.{IsUtf8}
use Rattle.csv.specs.Records.{fields_of}
use Rattle.wb_csv.proofs.lemmas.LineLemmas.{text-empty, text-at, text-next}
use Rattle.wb_csv.proofs.settings.is_text.Goals as goal

pub loop-place-init : goal.loop-place-init
loop-place-init c = text-empty

pub returns-then-is_broken-clause-no : goal.returns-then-is_broken-clause-no
returns-then-is_broken-clause-no c = λ is all.
    c.is_broken.ensures.yes c.if-is_broken.true
    (subst IsUtf8 (sym c.field.ensures) (text-at (fields_of c.args.row.now) c.loop-place.place (omega (arith, c.loop-place-test.true, c.len-place-end.ensures, c.loop-place.auto.place-end)) all))

pub loop-place-preserved : goal.loop-place-preserved
loop-place-preserved c =
    text-next (fields_of c.args.row.now) c.loop-place.place (omega (arith, c.loop-place-test.true, c.len-place-end.ensures, c.loop-place.auto.place-end)) c.loop-place.invariant
    (subst IsUtf8 c.field.ensures (c.is_broken.ensures.no c.if-is_broken.false))
