use Rattle.std.proofs.Common.{sym, ap, ◌∙◌}
use Rattle.winnow_reader.specs.State.{ReaderState}
use Rattle.wb_csv.proofs.lemmas.CopiedLemmas.{begun-pushed, begun-written, begun-same, copies-piece, stops-piece, writes-same, stops-same, on-three, if-err}
use Rattle.wb_csv.proofs.copying.CopyingDriven.piece.Goals as goal

pub write_ahead-requires : goal.write_ahead-requires
write_ahead-requires g c =
    let old = c.args.self.now in
    begun-pushed old.settings old.reader c.push.new.reader old.progress c.args.piece.now c.requires.0 c.requires.1 c.in_default.ensures.ok c.in_default.ensures.read c.in_default.ensures.counted

pub returns-clause-ready : goal.returns-clause-ready
returns-clause-ready g c =
    let old = c.args.self.now in
    let new = c.write_ahead.new.self in
    let pushed = c.push.new.reader in
    let begun = begun-pushed old.settings old.reader pushed old.progress c.args.piece.now c.requires.0 c.requires.1 c.in_default.ensures.ok c.in_default.ensures.read c.in_default.ensures.counted in
    let goes = ap (λ (f : ReaderState _). f.ended) c.in_default.ensures.ok ∙ c.requires.1 in
    on-three c.write_ahead.result
    (λ same writes ended. (
      begun-same old.settings new.settings (sym same) new.reader new.progress (begun-written old.settings pushed new.reader old.progress new.progress _ _ begun writes),
      ended ∙ goes,
    ))
    c.write_ahead.ensures.settings c.write_ahead.ensures.ok c.write_ahead.ensures.ended

pub returns-clause-follows : goal.returns-clause-follows
returns-clause-follows g c = λ start bytes had both.
    let is = both.0 in
    let copies = both.1 in
    let old = c.args.self.now in
    let new = c.write_ahead.new.self in
    let pushed = c.push.new.reader in
    on-three c.write_ahead.result
    (λ same writes ended. (
      same ∙ is,
      copies-piece start.settings bytes had _ _ old.reader pushed new.reader old.progress new.progress c.args.piece.now copies c.in_default.ensures.ok c.in_default.ensures.read c.in_default.ensures.counted (writes-same old.settings start.settings is pushed new.reader old.progress _ _ new.progress writes) ended,
    ))
    c.write_ahead.ensures.settings c.write_ahead.ensures.ok c.write_ahead.ensures.ended

pub returns-clause-tells : goal.returns-clause-tells
returns-clause-tells g c = λ start bytes rest had both.
    let is = both.0 in
    let copies = both.1 in
    let old = c.args.self.now in
    let new = c.write_ahead.new.self in
    let pushed = c.push.new.reader in
    if-err c.write_ahead.result
    (λ failure stops. stops-piece start.settings bytes had _ _ old.reader pushed new.reader old.progress new.progress c.args.piece.now copies c.in_default.ensures.ok c.in_default.ensures.read c.in_default.ensures.counted failure rest (stops-same old.settings start.settings is pushed new.reader old.progress _ _ failure stops))
    c.write_ahead.ensures.failed
