use Rattle.format_csv_fields.proofs.lemmas.ReadLemmas.{takes-kept}
use Rattle.format_csv_fields.proofs.field_reader.FieldReader.take.Goals as goal

pub returns-clause-taken : goal.returns-clause-taken
returns-clause-taken c =
    let r = c.self.inside in
    takes-kept c.args.self.now r.reader r.at r.limit r.within c.is_comma-self-inside.result _ c.self.view_is c.ahead.result.now c.lend.new.value.items c.in_ok-self-inside.field-0 c.ahead.ensures c.args.text c.args.ending c.args.length c.requires.found c.in_ok-self-inside.ensures.value c.requires.some c.is_comma-self-inside.ensures
