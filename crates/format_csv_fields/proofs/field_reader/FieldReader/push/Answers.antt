use Rattle.format_csv_fields.proofs.lemmas.ReadLemmas.{read-piece, push-view}
use Rattle.format_csv_fields.proofs.field_reader.FieldReader.push.Goals as goal

pub returns-clause-read : goal.returns-clause-read
returns-clause-read c =
    let r = c.self.inside in
    read-piece c.args.self.now _ c.args.piece.now c.requires.goes_on
    (push-view c.args.self.now r.reader c.skip.new.self c.push.new.self r.at c.skip.result r.limit r.within _ c.args.piece.now c.self.view_is c.self.invariant.0 c.skip.ensures.count c.skip.ensures.state c.in_ok-push.ensures.ok)
