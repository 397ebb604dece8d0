use Rattle.std.proofs.Common.{◌++◌, sym, ap, ◌∙◌, arith}
use Rattle.csv.specs.Records.{fields_of}
use Rattle.wb_csv.specs.Lines.{field_of, pick, joined}
use Rattle.wb_csv.proofs.lemmas.LineLemmas.{push-next, push-all, map-twice}
use Rattle.wb_csv.proofs.lines.append_some.Goals as goal

pub loop-index-preserved : goal.loop-index-preserved
loop-index-preserved c =
    push-next (λ k. field_of c.args.settings.now (pick (fields_of c.args.row.now) k)) 0 c.args.columns.now c.loop-index.index c.args.text.now.items c.loop-index.text.items _
    (omega (arith, c.loop-index-test.true, c.loop-index.auto.index-end)) c.loop-index.invariant c.in_ok-append_next.ensures

pub returns : goal.returns
returns c =
    let start = c.args.text.now.items in
    push-all (λ k. field_of c.args.settings.now (pick (fields_of c.args.row.now) k)) 0 c.args.columns.now c.loop-index.index start c.loop-index.text.items
    (omega (arith, c.loop-index-test.false, c.loop-index.auto.index-end)) c.loop-index.invariant
    ∙ ap (λ texts. start ++ joined texts) (sym (map-twice (field_of c.args.settings.now) (pick (fields_of c.args.row.now)) c.args.columns.now))
