use Rattle.std.proofs.Common.{arith, ◌≤◌}
use Rattle.winnow_binary.proofs.lemmas.FieldLemmas.{sum-before, All-more}
use Rattle.winnow_binary.proofs.bit_widths.filled_bytes.Goals as goal

pub loop-width-preserved : goal.loop-width-preserved
loop-width-preserved c =
    let ws = c.args.widths.now in
    let i = c.loop-width.width-index in
    record {
      bits = omega (arith, sum-before ws i c.loop-width-test.true);
      most = omega arith;
      least = All-more (λ w. 1 ≤ w) ws i c.loop-width-test.true c.loop-width.invariant.least (omega arith);
    }
