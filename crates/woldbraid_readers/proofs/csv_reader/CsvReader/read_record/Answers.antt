use Rattle.csv.specs.Records.{fields_of}
use Rattle.woldbraid_readers.proofs.csv_reader.CsvReader.read_record.Goals as goal

pub returns : goal.returns
returns c = (
  c.read_into-answer.result,
  (
    fields_of c.read_into-answer.new.row,
    record {
      reads = rw c.tell.ensures.reader c.read_into-answer.ensures.read;
      next = rw c.tell.ensures.reader c.read_into-answer.ensures.next;
      kept = c.tell.ensures.kept;
      tells = c.tell.ensures.tells;
    },
  ),
)
