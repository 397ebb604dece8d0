use Rattle.std.proofs.Common.{◌≡◌, length, arith, ap, sym, ◌∙◌, subst, take}
use Rattle.std.specs.Prelude.{Some}
use Rattle.std.proofs.Math.Seq.{take-length}
use Rattle.std.proofs.lemmas.Bool.Decides.{nat_tests}
use Rattle.format_csv.specs.Widths.{first_width, HaveWidth, IsFirstUneven}
use Rattle.format_csv.proofs.lemmas.WidthLemmas.{first-width, uneven-at}
use Rattle.format_csv.proofs.widths.first_uneven.Goals as goal

pub returns-then-len-width : goal.returns-then-len-width
returns-then-len-width c =
    let rows = c.args.records.now in
    let width : c.len-width.result ≡ first_width rows = c.len-width.ensures ∙ first-width rows c.index-records-0.result (grind (arith, nat_tests, c.if-is_empty.false, c.is_empty.ensures)) c.index-records-0.is in
    subst (λ n. IsFirstUneven rows (Some n)) (sym c.loop-fields.invariant.counted)
    (uneven-at rows c.loop-fields.fields-index c.len-width.result c.fields-item.result c.loop-fields-test.true c.fields-item.is width c.loop-fields.invariant.even (λ f. c.if-len-width.true (c.len.ensures ∙ f)))

pub returns : goal.returns
returns c =
    let rows = c.args.records.now in
    let width : c.len-width.result ≡ first_width rows = c.len-width.ensures ∙ first-width rows c.index-records-0.result (grind (arith, nat_tests, c.if-is_empty.false, c.is_empty.ensures)) c.index-records-0.is in
    let whole : c.loop-fields.fields-index ≡ length rows = grind (arith, c.loop-fields-test.false, c.loop-fields.auto.fields-index-end) in
    subst (λ n. HaveWidth n rows) width
    (subst (λ l. HaveWidth c.len-width.result l) (ap (λ n. take n rows) whole ∙ take-length rows) c.loop-fields.invariant.even)
