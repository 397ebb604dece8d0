use Rattle.std.proofs.Common.{◌≡◌, ◌≤◌, All, take, sum}
use Rattle.winnow_binary.proofs.bit_widths.filled_bytes.Given as goal

abbrev pub invariant-loop-width : goal.invariant-loop-width
invariant-loop-width l = record {
  bits : l.bits ≡ sum (take l.width-index l.widths);
  most : l.bits ≤ 64;
  least : All (λ width. 1 ≤ width) (take l.width-index l.widths);
}
