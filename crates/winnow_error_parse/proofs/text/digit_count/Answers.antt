use Rattle.std.proofs.Common.{◌≡◌, ◌+◌, arith, length}
use Rattle.std.specs.Fmt.{decimal}
use Rattle.winnow_error_parse.proofs.lemmas.DigitLemmas.{length-decimal-digit, length-decimal-step, length-decimal-le}
use Rattle.winnow_error_parse.proofs.text.digit_count.Goals as goal

pub overflow_add-count : goal.overflow_add-count
overflow_add-count c =
    let now : c.loop-rest.count + length (decimal c.loop-rest.rest) ≡ length (decimal c.args.number) + 1 = c.loop-rest.invariant in
    omega (arith, now, length-decimal-le c.args.number (omega arith))

pub loop-rest-preserved : goal.loop-rest-preserved
loop-rest-preserved c =
    let now : c.loop-rest.count + length (decimal c.loop-rest.rest) ≡ length (decimal c.args.number) + 1 = c.loop-rest.invariant in
    omega (arith, now, length-decimal-step c.loop-rest.rest c.loop-rest-test.true (omega arith))

pub returns : goal.returns
returns c =
    let now : c.loop-rest.count + length (decimal c.loop-rest.rest) ≡ length (decimal c.args.number) + 1 = c.loop-rest.invariant in
    omega (arith, now, length-decimal-digit c.loop-rest.rest c.loop-rest-test.false)
