use Rattle.std.proofs.Common.{◌≡◌, length}
use Rattle.wb_csv.specs.Copying.{ReadsLines}
use Rattle.wb_csv.proofs.reading.read_records.Given as goal

-- the lines of what was read since the start are the text
abbrev pub invariant-loop-reader : goal.invariant-loop-reader
invariant-loop-reader l = record {
  reads : ReadsLines l.settings l.fn.reader l.fn.progress l.reader l.progress l.text.items;
  ended : l.reader.ended ≡ l.fn.reader.ended;
}

abbrev pub decreases-loop-reader : goal.decreases-loop-reader
decreases-loop-reader l = length l.reader.ahead
