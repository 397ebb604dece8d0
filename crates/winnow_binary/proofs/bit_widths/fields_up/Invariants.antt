use Rattle.std.proofs.Common.{◌≡◌, length, ◌++◌, take, drop, sum}
use Rattle.winnow_binary.specs.Fields.{fields_up}
use Rattle.winnow_binary.proofs.bit_widths.fields_up.Given as goal

abbrev pub invariant-loop-i : goal.invariant-loop-i
invariant-loop-i g l = record {
  count : length l.fields ≡ g.row.N;
  low : l.low ≡ sum (take l.i l.widths);
  filled : take l.i l.fields ++ fields_up l.low (drop l.i l.widths) l.number
      ≡ fields_up 0 l.widths l.number;
}
