use Rattle.format_csv_fields.proofs.lemmas.ReadLemmas.{read-end, end-view}
use Rattle.format_csv_fields.proofs.field_reader.FieldReader.end.Goals as goal

pub returns-clause-read : goal.returns-clause-read
returns-clause-read c =
    let r = c.self.inside in
    read-end c.args.self.now _
    (end-view c.args.self.now r.reader c.end.new.self r.at r.limit r.within r.lent r.value.items c.self.view_is c.end.ensures.state)
