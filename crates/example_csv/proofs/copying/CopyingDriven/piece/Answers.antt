use Rattle.std.proofs.Common.{ap, ◌∙◌}
use Rattle.winnow.specs.State.{ReaderState}
use Rattle.example_csv.proofs.lemmas.CopiedLemmas.{begun-pushed, begun-written, copies-piece, stops-piece, on-both, if-err}
use Rattle.example_csv.proofs.copying.CopyingDriven.piece.Goals as goal

pub write_ahead-requires : goal.write_ahead-requires
write_ahead-requires g c =
    let old = c.args.self.now in
    begun-pushed old.reader c.push.new.reader old.progress c.args.piece.now c.requires.0 c.in_default.ensures.ok c.in_default.ensures.read c.in_default.ensures.counted

pub returns-clause-ready : goal.returns-clause-ready
returns-clause-ready g c =
    let old = c.args.self.now in
    let pushed = c.push.new.reader in
    let begun = begun-pushed old.reader pushed old.progress c.args.piece.now c.requires.0 c.in_default.ensures.ok c.in_default.ensures.read c.in_default.ensures.counted in
    let goes = ap (λ (f : ReaderState _). f.ended) c.in_default.ensures.ok ∙ c.requires.1 in
    on-both c.write_ahead.result
    (λ writes ended. (begun-written pushed c.write_ahead.new.reader old.progress c.write_ahead.new.progress _ _ begun writes, ended ∙ goes))
    c.write_ahead.ensures.ok c.write_ahead.ensures.ended

pub returns-clause-follows : goal.returns-clause-follows
returns-clause-follows g c = λ start bytes had copies.
    let old = c.args.self.now in
    on-both c.write_ahead.result
    (λ writes ended. copies-piece bytes had _ _ old.reader c.push.new.reader c.write_ahead.new.reader old.progress c.write_ahead.new.progress c.args.piece.now copies c.in_default.ensures.ok c.in_default.ensures.read c.in_default.ensures.counted writes ended)
    c.write_ahead.ensures.ok c.write_ahead.ensures.ended

pub returns-clause-tells : goal.returns-clause-tells
returns-clause-tells g c = λ start bytes rest had copies.
    let old = c.args.self.now in
    if-err c.write_ahead.result
    (λ failure stops. stops-piece bytes had _ _ old.reader c.push.new.reader c.write_ahead.new.reader old.progress c.write_ahead.new.progress c.args.piece.now copies c.in_default.ensures.ok c.in_default.ensures.read c.in_default.ensures.counted failure rest stops)
    c.write_ahead.ensures.failed
