use Rattle.format_csv_fields.proofs.lemmas.ReadLemmas.{reads-on, tells-damage}
use Rattle.format_csv_fields.proofs.field_reader.FieldReader.read_next.Goals as goal

pub returns-clause-read : goal.returns-clause-read
returns-clause-read c = reads-on c.args.self.now c.read_field.new.self c.read_field.result c.read_field.ensures

pub returns-clause-damage : goal.returns-clause-damage
returns-clause-damage c = tells-damage c.args.self.now c.read_field.new.self c.read_field.result c.read_field.ensures
