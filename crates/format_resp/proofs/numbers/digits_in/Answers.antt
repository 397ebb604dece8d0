use Rattle.std.proofs.Common.{arith}
use Rattle.format_resp.proofs.lemmas.NumberLemmas.{digits-more, digits-none, digits-all}
use Rattle.format_resp.proofs.numbers.digits_in.Goals as goal

pub returns-in-None : goal.returns-in-None
returns-in-None c =
    let l = c.loop-byte in
    digits-none c.args.text.now l.byte-index l.number c.with_digit.result c.loop-byte-test.true l.invariant.number c.with_digit.ensures c.in-None.is

pub loop-byte-preserved : goal.loop-byte-preserved
loop-byte-preserved c =
    let l = c.loop-byte in
    let more = digits-more c.args.text.now l.byte-index l.number c.in-Some.longer c.with_digit.result c.loop-byte-test.true l.invariant.digits l.invariant.number c.with_digit.ensures c.in-Some.is in
    record { digits = more.0; number = more.1; small = ((c.with_digit.ensures c.in-Some.longer).0 c.in-Some.is).1.1 }

pub returns : goal.returns
returns c =
    let l = c.loop-byte in
    digits-all c.args.text.now l.byte-index l.number (omega (arith, c.loop-byte-test.false)) l.invariant.small l.invariant.digits l.invariant.number
