use Rattle.wb_csv.proofs.lemmas.CopiedLemmas.{begun-ended, tells-end, writes-same, stops-same, on-ok, if-err}
use Rattle.wb_csv.proofs.copying.CopyingDriven.end.Goals as goal

pub write_ahead-requires : goal.write_ahead-requires
write_ahead-requires g c =
    let old = c.args.self.now in
    begun-ended old.settings old.reader c.end.new.self old.progress c.requires.0 c.end.ensures.state c.end.ensures.read

pub returns : goal.returns
returns g c = λ start bytes had both.
    let is = both.0 in
    let copies = both.1 in
    let old = c.args.self.now in
    let new = c.write_ahead.new.self in
    let ended = c.end.new.self in
    tells-end start.settings bytes had _ _ old.reader ended new.reader old.progress new.progress copies
    c.end.ensures.state c.end.ensures.read c.write_ahead.result
    (on-ok c.write_ahead.result (writes-same old.settings start.settings is ended new.reader old.progress _ _ new.progress) c.write_ahead.ensures.ok)
    c.write_ahead.ensures.through
    (if-err c.write_ahead.result (stops-same old.settings start.settings is ended new.reader old.progress _ _) c.write_ahead.ensures.failed)
