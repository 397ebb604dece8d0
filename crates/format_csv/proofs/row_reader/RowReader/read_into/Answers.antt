use Rattle.csv.specs.Records.{fields_of}
use Rattle.format_csv.proofs.lemmas.RowReaderLemmas.{reads-on}
use Rattle.format_csv.proofs.row_reader.RowReader.read_into.Goals as goal

pub returns-clause-read : goal.returns-clause-read
returns-clause-read c =
    reads-on c.args.self.now c.read_next.new.self c.read_next.result (fields_of c.read_next.new.row) c.read_next.ensures
