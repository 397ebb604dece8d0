use Rattle.format_csv.proofs.lemmas.WritingLemmas.{read-back}
use Rattle.format_csv.proofs.writing.write_record.Goals as goal

pub returns-in_err-append_fields-clause-read_back : goal.returns-in_err-append_fields-clause-read_back
returns-in_err-append_fields-clause-read_back c = read-back c.args.fields.now c.requires.some

pub returns-in_err-extend_from_slice-clause-read_back : goal.returns-in_err-extend_from_slice-clause-read_back
returns-in_err-extend_from_slice-clause-read_back c = read-back c.args.fields.now c.requires.some

pub returns-clause-read_back : goal.returns-clause-read_back
returns-clause-read_back c = read-back c.args.fields.now c.requires.some
