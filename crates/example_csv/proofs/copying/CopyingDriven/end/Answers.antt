use Rattle.example_csv.proofs.lemmas.CopiedLemmas.{begun-ended, tells-end}
use Rattle.example_csv.proofs.copying.CopyingDriven.end.Goals as goal

pub write_ahead-requires : goal.write_ahead-requires
write_ahead-requires g c =
    let old = c.args.self.now in
    begun-ended old.reader c.end.new.self old.progress c.requires.0 c.end.ensures.state c.end.ensures.read

pub returns : goal.returns
returns g c = λ start bytes had copies.
    let old = c.args.self.now in
    tells-end c.rows_in_pieces_law.ensures.records bytes had _ _ old.reader c.end.new.self c.write_ahead.new.reader
    old.progress c.write_ahead.new.progress copies c.end.ensures.state c.end.ensures.read
    c.write_ahead.result c.write_ahead.ensures.ok c.write_ahead.ensures.through c.write_ahead.ensures.failed
