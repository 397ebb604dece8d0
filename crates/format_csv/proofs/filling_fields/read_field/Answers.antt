use Rattle.std.proofs.Common.{refl}
use Rattle.csv.specs.Records.{fields_of}
use Rattle.format_csv.proofs.lemmas.FillByteLemmas.{slice-from}
use Rattle.format_csv.proofs.lemmas.FillQuoteLemmas.{field-quoted}
use Rattle.format_csv.proofs.filling_fields.read_field.Goals as goal

pub returns-in-Some-clause-field : goal.returns-in-Some-clause-field
returns-in-Some-clause-field c =
    field-quoted c.args.bytes.now _ (fields_of c.args.row.now) (fields_of c.read_quoted.new.row) c.in-Some.length (slice-from c.args.bytes.now 1) (c.if-has_quote.ensures.quote refl)
    (rw c.in-Some.is at c.in_ok-length.ensures.field)
